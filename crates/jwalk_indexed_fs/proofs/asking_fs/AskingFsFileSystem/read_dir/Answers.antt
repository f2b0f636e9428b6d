use Rattle.std.proofs.Common.{◌≡◌, ◌++◌, [], ◌∙◌, Ok, map, ap, sym, append-nil}
use Rattle.jwalk_fs.specs.Views.{listed}
use Rattle.jwalk_indexed_fs.proofs.asking_fs.AskingFsFileSystem.read_dir.Goals as goal

pub returns-clause-value : goal.returns-clause-value
returns-clause-value g c = λ fixed.
    let taken = c.in_ok-read_dir_into.ensures.taken in
    let before = c.new-items.result in
    let empty : map listed before.items.items ≡ [] = ap (map listed) c.new-items.ensures in
    let took : map listed c.read_dir_into.new.sink.items.items ≡ taken.0 =
    taken.1 before [] (sym (append-nil (map listed before.items.items))) ∙ ap (λ l. l ++ taken.0) empty in
    taken.2 fixed ∙ ap Ok (sym took)

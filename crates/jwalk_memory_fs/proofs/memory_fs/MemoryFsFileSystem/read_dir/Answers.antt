use Rattle.std.proofs.Common.{◌++◌, Ok, [], map, sym, ap, ◌∙◌, append-nil}
use Rattle.jwalk_fs.specs.Views.{listed}
use Rattle.jwalk_memory_fs.proofs.memory_fs.MemoryFsFileSystem.read_dir.Goals as goal

pub returns-clause-value : goal.returns-clause-value
returns-clause-value g c =
    let taken = c.in_ok-read_dir_into.ensures.taken in
    let begun = c.new-kept.result in
    let all = taken.1 begun [] (sym (append-nil (map listed begun.items.items))) in
    taken.2 ∙ ap Ok (sym (all ∙ ap (λ l. map listed l ++ taken.0) c.new-kept.ensures))

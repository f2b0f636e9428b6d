use Rattle.std.proofs.Common.{[], ◌++◌, map, ap, sym, append-nil}
use Rattle.jwalk_fs.specs.Views.{listed}
use Rattle.jwalk_real_fs.proofs.real_fs.RealFsFileSystem.read_dir.Goals as goal

pub returns-clause-gives : goal.returns-clause-gives
returns-clause-gives g c =
    let taken = c.in_ok-read_dir_into.ensures.taken in
    let begun = c.new-kept.result in
    let kept = taken.1 begun [] (sym (append-nil (map listed begun.items.items))) in
    rw (kept, ap (λ l. map listed l ++ taken.0) c.new-kept.ensures) taken.2

use Rattle.std.proofs.Common.{[], ◌++◌, Ok, map, ap, subst, sym, ◌∙◌, append-nil}
use Rattle.jwalk_fs.specs.Views.{listed}
use Rattle.jwalk_real_fs.specs.Patient.{behind}
use Rattle.jwalk_real_fs.proofs.patient.PatientFileSystem.read_dir.Goals as goal

pub returns-clause-value : goal.returns-clause-value
returns-clause-value g c =
    let taken = c.in_ok-read_dir_into.ensures.taken in
    let begun = c.new-kept.result in
    let kept = taken.1 begun [] (sym (append-nil (map listed begun.items.items))) in
    λ fixed. taken.2 fixed ∙ ap Ok (sym (kept ∙ ap (λ l. map listed l ++ taken.0) c.new-kept.ensures))

pub returns-clause-gives : goal.returns-clause-gives
returns-clause-gives g c =
    let taken = c.in_ok-read_dir_into.ensures.taken in
    let begun = c.new-kept.result in
    let kept = taken.1 begun [] (sym (append-nil (map listed begun.items.items))) in
    subst (g.S.FileSystem.read_dir_gives (behind c.args.self.now) c.args.path.now) (sym (kept ∙ ap (λ l. map listed l ++ taken.0) c.new-kept.ensures)) taken.3

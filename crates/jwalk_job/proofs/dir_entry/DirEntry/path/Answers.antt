use Rattle.std.proofs.Common.{◌≡◌, ◌∙◌, ap, subst}
use Rattle.std.specs.Prelude.{IfOk, string_bytes}
use Rattle.jwalk_model.specs.Paths.{join}
use Rattle.jwalk_job.proofs.dir_entry.DirEntry.path.Goals as goal

pub returns : goal.returns
returns g c =
    let parent = c.as_str.ensures.value ∙ ap string_bytes c.deref.ensures in
    subst (λ p. IfOk c.join.result (λ path. string_bytes path ≡ join p (string_bytes c.args.self.now.file_name))) parent
    (subst (λ n. IfOk c.join.result (λ path. string_bytes path ≡ join c.as_str.result.now n)) c.as_str-2.ensures.value c.join.ensures)

use Rattle.std.proofs.Common.{◌≡◌, ◌∙◌, Ok, ap, sym}
use Rattle.std.specs.Prelude.{string_bytes}
use Rattle.jwalk_model.specs.Entry.{path_of}
use Rattle.jwalk_job.specs.Text.{text}
use Rattle.jwalk_job.specs.Entry.{entry}
use Rattle.jwalk_job.proofs.job.Job.follow_link.Goals as goal

pub returns-in-Ok-clause-value : goal.returns-in-Ok-clause-value
returns-in-Ok-clause-value g c = λ given fixed default asked above.
    let fs = g.S.FileSystem.functions c.args.self.now.fs in
    let named : text c.in_ok-path.path ≡ path_of (entry c.args.link.now) = rw (← c.parent_path.ensures, ← c.file_name.ensures) c.in_ok-path.ensures in
    let at : c.as_str.result.now ≡ path_of (entry c.args.link.now) = c.as_str.ensures.value ∙ ap string_bytes c.deref.ensures ∙ named in
    let met : fs.meta_of (path_of (entry c.args.link.now)) ≡ Ok c.in-Ok.target = sym (ap fs.meta_of at) ∙ rw c.in-Ok.is at (c.metadata.ensures fixed) in
    rw met (c.reached.ensures.value given fixed default asked above)

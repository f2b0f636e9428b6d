use Rattle.std.proofs.Common.{◌≡◌, ◌∙◌, suc, ap, sym}
use Rattle.std.specs.Prelude.{string_bytes}
use Rattle.jwalk.specs.jwalk_model.Paths.{dots, join}
use Rattle.tally_run.specs.Above.{above, folder_at}
use Rattle.tally_run.proofs.roots.Roots.has_above.Goals as goal

pub loop-preserved : goal.loop-preserved
loop-preserved g c = λ fixed at.
    let fs = g.S.FileSystem.functions c.args.disk.now in
    let so_far = c.loop.invariant fixed at in
    let path : string_bytes c.in_ok-path-2.path ≡ above (suc so_far.0) c.args.folder.now
    = c.in_ok-path-2.ensures ∙ ap (λ p. join p dots) (c.as_str.ensures.value ∙ so_far.1) in
    let found = c.in_ok-above.ensures fixed in
    (suc so_far.0, path, ap (folder_at fs) (sym path ∙ sym c.as_str-in-loop.ensures.value) ∙ sym found ∙ c.in-Some.is)

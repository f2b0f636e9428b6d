use Rattle.std.proofs.Common.{◌+◌, [], ◌∷◌, Err, refl, ap, ◌∙◌}
use Rattle.std.specs.Prelude.{string_bytes}
use Rattle.std.specs.IoError.{error_kind}
use Rattle.jwalk_model.specs.Error.{unnamed}
use Rattle.jwalk_job.specs.Text.{text}
use Rattle.jwalk_job.proofs.GatheredFacts.{asks_nothing, gathered_more}
use Rattle.jwalk_job.proofs.job.gathering.GatheringSink.take_error.Goals as goal

pub returns : goal.returns
returns g c = λ first before so_far.
    let kind = error_kind c.args.error in
    let failed =
    c.from_item.ensures.failure
    ∙ ap (λ d. unnamed (d + 1) (text c.in_ok-parent.parent) kind) c.depth-depth.ensures
    ∙ ap (λ p. unnamed (c.args.self.now.of.now.depth + 1) (string_bytes p) kind) c.in_ok-parent.ensures.cases in
    gathered_more g.S.FileSystem g.C.DirEntryState.Default first c.args.self.now _ before (Err kind) (Err c.from_item.result ∷ []) refl refl c.in_ok-push.ensures.items tt
    (λ fixed. asks_nothing (g.S.FileSystem.functions c.args.self.now.job.now.fs) c.args.self.now.inside)
    (λ given fixed default inside. ap (λ f. Err f ∷ []) failed) so_far

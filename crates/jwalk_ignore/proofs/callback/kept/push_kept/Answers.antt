use Rattle.std.proofs.Common.{◌∷◌, [], ◌++◌, ◌∙◌, map, cond, ap, sym}
use Rattle.std.proofs.lemmas.List.{map-append}
use Rattle.jwalk.specs.jwalk_job.Entry.{item}
use Rattle.jwalk_ignore.proofs.callback.kept.push_kept.Goals as goal

pub returns-in_ok-push-clause-kept : goal.returns-in_ok-push-clause-kept
returns-in_ok-push-clause-kept g c = λ test decides.
    ap (map item) c.in_ok-push.ensures.items ∙ map-append item c.args.kept.now.items (c.args.found ∷ [])
    ∙ ap (λ b. map item c.args.kept.now.items ++ cond b (item c.args.found ∷ []) []) (sym c.if-branch.true ∙ c.in_ok-keeps.ensures.kept test decides)

use Rattle.std.proofs.Common.{◌∷◌, [], Err, map, subst, sym, ◌∙◌, ap, ◌++◌}
use Rattle.std.proofs.lemmas.List.{map-append}
use Rattle.jwalk.specs.jwalk_job.Entry.{item}
use Rattle.jwalk.specs.jwalk_job.Error.{failure}
use Rattle.jwalk_ignore.specs.Callback.MadeDepths.{append_at}
use Rattle.jwalk.specs.jwalk_job.Given.{AddsErrors}
use Rattle.jwalk.proofs.GivenFacts.{adds_error}
use Rattle.jwalk_ignore.proofs.callback.rules_reader.RulesReader.add_root.Goals as goal

pub returns-in_ok-push-in-Err-Io-clause-depth : goal.returns-in_ok-push-in-Err-Io-clause-depth
returns-in_ok-push-in-Err-Io-clause-depth g c = λ depth before.
    let old = c.args.made.now.list.items in
    rw (c.in_ok-push-in-Err-Io.ensures.items, map-append item old (Err c.from_path.result ∷ [])) (append_at depth (map item old) (Err (failure c.from_path.result) ∷ []) before tt)

pub returns-in_ok-push-in-Err-Io-clause-errors : goal.returns-in_ok-push-in-Err-Io-clause-errors
returns-in_ok-push-in-Err-Io-clause-errors g c =
    let old = c.args.made.now.list.items in
    subst (AddsErrors (map item old)) (sym (ap (map item) c.in_ok-push-in-Err-Io.ensures.items ∙ map-append item old (Err c.from_path.result ∷ []))) (adds_error (map item old) (failure c.from_path.result))

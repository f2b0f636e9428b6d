use Rattle.std.proofs.Common.{◌∷◌, [], Some, Err, map, string_bytes, ap, sym, subst}
use Rattle.std.specs.IoError.{error_kind}
use Rattle.std.proofs.lemmas.Result.{on_ok_weaker}
use Rattle.jwalk.specs.jwalk_model.Error.{io}
use Rattle.jwalk.specs.jwalk_job.Entry.{item}
use Rattle.jwalk_ignore.specs.Callback.MadeDepths.{append_at}
use Rattle.jwalk.proofs.GivenFacts.{adds_error, adds_none}
use Rattle.jwalk.specs.jwalk_job.Given.{AddsErrors}
use Rattle.jwalk_ignore.proofs.callback.source.Made.add_found.Goals as goal

pub returns-in-Err-Io-clause-depth : goal.returns-in-Err-Io-clause-depth
returns-in-Err-Io-clause-depth g c = λ depth before.
    on_ok_weaker c.add_error.result (λ is. rw is (append_at depth (map item c.args.self.now.list.items) (Err (io c.args.source.depth (Some (string_bytes c.args.path)) (error_kind c.in-Err-Io.error)) ∷ []) before tt)) c.add_error.ensures.list

pub returns-in-Ok-Some-clause-errors : goal.returns-in-Ok-Some-clause-errors
returns-in-Ok-Some-clause-errors g c =
    let old = map item c.args.self.now.list.items in
    on_ok_weaker c.add_read.result (λ same. subst (AddsErrors old) (sym (ap (λ l. map item l.items) same)) (adds_none old)) c.add_read.ensures.list

pub returns-in-Ok-None-clause-errors : goal.returns-in-Ok-None-clause-errors
returns-in-Ok-None-clause-errors g c = adds_none (map item c.args.self.now.list.items)

pub returns-in-Err-Io-clause-errors : goal.returns-in-Err-Io-clause-errors
returns-in-Err-Io-clause-errors g c =
    let old = map item c.args.self.now.list.items in
    on_ok_weaker c.add_error.result (λ is. subst (AddsErrors old) (sym is) (adds_error old (io c.args.source.depth (Some (string_bytes c.args.path)) (error_kind c.in-Err-Io.error)))) c.add_error.ensures.list

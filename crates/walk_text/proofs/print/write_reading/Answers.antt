use Rattle.std.proofs.Common.{◌∙◌, ap, subst, sym}
use Rattle.std.specs.Io.KnownBytes.{Appends}
use Rattle.std.specs.Option.{option_copied, option_map}
use Rattle.std.proofs.lemmas.Result.{on_ok_weaker}
use Rattle.jwalk_job.specs.Entry.{children}
use Rattle.jwalk_job.specs.Error.{failure}
use Rattle.walk_text.proofs.PrintFacts.{reading_failed, then}
use Rattle.walk_text.proofs.print.write_reading.Goals as goal

pub returns : goal.returns
returns g c =
    let failed = sym c.error.ensures ∙ ap (λ found. option_map failure (option_copied found)) c.in-Some-error.is in
    let name = c.as_bytes.ensures.value ∙ c.kind_name.ensures ∙ c.kind_of.ensures in
    on_ok_weaker c.write_all-2.result
    (λ last. subst (Appends (g.W.Write.contents c.args.out.now) (g.W.Write.contents c.write_all-2.new.self))
    (reading_failed _ (children c.in-Some.children) (failure c.in-Some-error.error.now) (ap (option_map children) c.in-Some.is) failed)
    (rw (← name) (then _ _ _ _ _ c.in_ok-write_all.ensures.bytes last)))
    c.write_all-2.ensures.bytes

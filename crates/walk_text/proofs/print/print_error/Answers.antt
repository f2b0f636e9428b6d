use Rattle.std.proofs.Common.{◌≡◌, ◌∙◌, ap, Some, subst, sym}
use Rattle.std.specs.Fmt.{decimal}
use Rattle.std.specs.Io.KnownBytes.{Appends}
use Rattle.std.specs.IoError.{error_kind}
use Rattle.std.specs.Option.{option_copied, option_map}
use Rattle.std.proofs.lemmas.Result.{on_ok_weaker}
use Rattle.jwalk_job.specs.Error.{failure, kind_of}
use Rattle.walk_text.proofs.PrintFacts.{then, then_is, kind_line, text_or}
use Rattle.walk_text.proofs.print.print_error.Goals as goal

pub returns : goal.returns
returns g c =
    let it = failure c.args.error.now in
    let kind : kind_of it ≡ Some c.kind.result =
    sym c.io_error.ensures ∙ ap (λ o. option_map error_kind (option_copied o)) c.in-Some-io_error.is ∙ ap Some (sym c.kind.ensures) in
    on_ok_weaker c.write_all-7.result
    (λ last. subst (Appends (g.W.Write.contents c.args.out.now) (g.W.Write.contents c.write_all-7.new.self)) (kind_line it c.kind.result kind)
    (then _ _ _ _ _ c.in_ok-write_all.ensures.bytes
    (then_is _ _ _ _ _ _ (ap decimal c.depth-2.ensures) c.in_ok-write_number.ensures
    (then _ _ _ _ _ c.in_ok-write_all-2.ensures.bytes
    (then_is _ _ _ _ _ _ (c.as_bytes-2.ensures.value ∙ text_or c.path-2.result _ _ _ c.unwrap_or.ensures c.path-2.ensures) c.in_ok-write_all-3.ensures.bytes
    (then _ _ _ _ _ c.in_ok-write_all-4.ensures.bytes
    (then_is _ _ _ _ _ _ (c.as_bytes-3.ensures.value ∙ c.kind_name.ensures) c.in_ok-write_all-5.ensures.bytes last)))))))
    c.write_all-7.ensures.bytes

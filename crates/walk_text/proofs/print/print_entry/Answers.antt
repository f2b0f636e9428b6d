use Rattle.std.proofs.Common.{◌∙◌, ap, ap₂}
use Rattle.std.proofs.lemmas.Result.{on_ok_weaker}
use Rattle.std.specs.Fmt.{decimal}
use Rattle.jwalk_model.specs.Paths.{join}
use Rattle.walk_text.proofs.PrintFacts.{then, then_is}
use Rattle.walk_text.proofs.print.print_entry.Goals as goal

pub returns : goal.returns
returns g c =
    on_ok_weaker c.write_all-4.result
    (λ last. then_is _ _ _ _ _ _ (ap decimal c.depth.ensures) c.in_ok-write_number.ensures
    (then _ _ _ _ _ c.in_ok-write_all.ensures.bytes
    (then_is _ _ _ _ _ _ (c.as_bytes.ensures.value ∙ c.letter.ensures) c.in_ok-write_all-2.ensures.bytes
    (then _ _ _ _ _ c.in_ok-write_all-3.ensures.bytes
    (then_is _ _ _ _ _ _ (ap₂ join c.parent_path.ensures c.file_name.ensures) c.in_ok-write_path.ensures
    (then _ _ _ _ _ c.in_ok-write_reading.ensures last))))))
    c.write_all-4.ensures.bytes

use Rattle.std.proofs.Common.{◌∙◌, Ok, ap, map, string_bytes, sym}
use Rattle.std.proofs.lemmas.Result.{IfOk-weaker}
use Rattle.program_parts.specs.Values.{texts_of}
use Rattle.tally_run.proofs.run.tally.Goals as goal

pub returns : goal.returns
returns g c =
    IfOk-weaker c.tally_all.result _ _ (λ clean writes. record {
      all = c.in_ok-asked.asked;
      included = record {
        read = map string_bytes c.as_slice-2.result.now;
        included = c.in_ok-asked.ensures;
        whole = λ fixed.
            ap (λ l. map ((g.X.Texts.functions c.args.texts).bytes_of) (texts_of l)) (sym c.as_slice.ensures.value)
            ∙ c.in_ok-read.ensures fixed
            ∙ ap (λ l. map Ok (map string_bytes l)) (sym c.as_slice-2.ensures.value);
      };
      writes = writes;
    }) c.tally_all.ensures

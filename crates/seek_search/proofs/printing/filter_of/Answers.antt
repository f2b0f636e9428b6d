use Rattle.std.proofs.Common.{◌∙◌, ap₂, refl, sym}
use Rattle.std.specs.Option.{option_map}
use Rattle.program_parts.specs.Values.{texts_of}
use Rattle.program_parts.proofs.ValueFacts.{some_mapped}
use Rattle.seek_words.specs.Subject.{front_of}
use Rattle.seek_words.specs.Wanted.{Wants}
use Rattle.seek_search.proofs.RunFacts.{sought_by}
use Rattle.seek_search.proofs.printing.filter_of.Goals as goal

pub returns : goal.returns
returns g c =
    let asked = c.args.asked.now in
    record {
      front = option_map front_of c.in_ok-path_of.field-0;
      is_front = record {
        wanted_so = sym (some_mapped front_of c.in_ok-path_of.field-0) ∙ c.in_ok-path_of.ensures.wanted;
        found = c.in_ok-path_of.ensures.front;
      };
      sought = λ fs. sought_by asked.prune fs (ap₂ (λ l sizes. let w : Wants = record { depths = asked.depths; kinds = asked.kinds; extensions = texts_of l; sizes = sizes; owner = asked.owner; times = asked.times } in w) c.as_slice.ensures.value c.as_slice-2.ensures.value) c.in_ok-new.ensures refl;
    }

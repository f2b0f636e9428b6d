use Rattle.std.proofs.Common.{◌∙◌, sym}
use Rattle.std.specs.Option.{option_map}
use Rattle.program_parts.proofs.ValueFacts.{some_mapped}
use Rattle.seek_words.specs.Subject.{front_of}
use Rattle.seek_search.proofs.printing.printer_of.Goals as goal

pub returns : goal.returns
returns g c = record {
  filter = c.in_ok-filter.ensures;
  shown = option_map front_of c.in_ok-absolute.absolute;
  is_shown = record {
    wanted_so = sym (some_mapped front_of c.in_ok-absolute.absolute) ∙ c.in_ok-absolute.ensures.wanted;
    found = c.in_ok-absolute.ensures.front;
  };
  form = λ fs. c.in_ok-new.ensures.form fs ∙ c.in_ok-layout.ensures fs;
  limit = c.limit_of.ensures;
  empty = c.in_ok-new.ensures.empty;
}

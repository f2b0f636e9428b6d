-- Subtotals of lists of answers that are alike.
use Rattle.std.specs.Prelude.{◌≡◌, true, List, map, is_ok}
use Rattle.std.specs.List.{list_all}
use Rattle.jwalk.specs.jwalk_model.declared.metadata.Identity.{Identity}
use Rattle.jwalk.specs.jwalk_model.Counted.{item_by}
use Rattle.jwalk.specs.jwalk_model.Entry.{Item}
use Rattle.jwalk_subtotals.specs.declared.options.SubtotalOptions.{SubtotalOptions}
use Rattle.jwalk_subtotals.specs.Subtotals.{subtotals_beside, yielded_by}

-- Subtotals don't go by states: those of answers with states by views are the same, with theirs.
abbrev pub StatesDoNotCount : Type 0 → Type 0 → Type 0 → Type 0 → Type 0
StatesDoNotCount R E V W = (view : R → V) (mark : E → W) (options : SubtotalOptions) (files : List Identity) (l : List (Item R E)) → subtotals_beside options files (map (item_by view mark) l) ≡ map (yielded_by view mark) (subtotals_beside options files l)

-- Where nothing that is yielded is an error, no answer is.
abbrev pub ErrorsAreYielded : Type 0 → Type 0 → Type 0
ErrorsAreYielded R E = (options : SubtotalOptions) (files : List Identity) (l : List (Item R E)) → list_all is_ok (subtotals_beside options files l) ≡ true → list_all is_ok l ≡ true

-- What answers count where each file counts once.
use Rattle.std.specs.Prelude.{◌≡◌, ℕ, ◌+◌, Bool, false, not, List, [], ◌∷◌, ◌++◌, Option, Some, None, Ok, Err, if◌then◌else◌}
use Rattle.std.specs.List.{list_any}
use Rattle.jwalk.specs.jwalk_model.declared.metadata.Identity.{Identity}
use Rattle.jwalk.specs.jwalk_model.Metadata.{same_file}
use Rattle.jwalk.specs.jwalk_model.Entry.{Entry, Item}
use Rattle.jwalk_subtotals.specs.Counted.{counted_once, size_kept, weighed}
use Rattle.jwalk_subtotals.specs.Roots.{root_subtotals, sum_of}
use Rattle.jwalk_subtotals.specs.declared.options.SubtotalOptions.{SubtotalOptions}

-- whether both are known and the same file
abbrev pub are_same : Option Identity → Option Identity → Bool
are_same (Some i) (Some j) = same_file i j
are_same (Some i) None = false
are_same None other = false

module _ {R E : Type 0} where
  -- whether an answer is another name of an entry's file
  abbrev pub is_name_of : SubtotalOptions → Entry R E → Item R E → Bool
  is_name_of options e (Ok other) = are_same (counted_once options e) (counted_once options other)
  is_name_of options e (Err f) = false

  -- whether an entry is the first name of its file behind these answers. One whose size always counts is.
  abbrev pub is_first : SubtotalOptions → List (Item R E) → Entry R E → Bool
  is_first options before e = not (list_any (is_name_of options e) before)

  -- the size of an answer behind these, if it is the first name of its file
  abbrev pub first_size : SubtotalOptions → List (Item R E) → Item R E → ℕ
  first_size options before (Ok e) = if is_first options before e then size_kept options.apparent e.seen else 0
  first_size options before (Err f) = 0

  -- the sizes of answers behind these, each file's at the first of its names
  abbrev pub first_sizes : SubtotalOptions → List (Item R E) → List (Item R E) → ℕ
  first_sizes options before [] = 0
  first_sizes options before (x ∷ l) = first_size options before x + first_sizes options (before ++ x ∷ []) l

-- The bytes of the roots' subtotals come to the sizes of all answers, each file's at the first of its names.
abbrev pub RootsAreFirsts : Type 0 → Type 0 → Type 0
RootsAreFirsts R E = (options : SubtotalOptions) (l : List (Item R E)) → (sum_of (root_subtotals (weighed options [] l))).bytes ≡ first_sizes options [] l

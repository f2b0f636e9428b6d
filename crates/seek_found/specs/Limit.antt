-- Answers up to a limit of finds.
use Rattle.std.specs.Prelude.{ℕ, ◌-◌, zero, suc, Bool, false, List, [], ◌∷◌, Option, None, Some, Ok, Err, if◌then◌else◌}
use Rattle.jwalk_model.specs.Entry.{Item}
use Rattle.seek_words.specs.Sought.{Sought, is_found}

-- a limit after one more find, if there is a limit
abbrev pub one_less : Option ℕ → Option ℕ
one_less None = None
one_less (Some n) = Some (n - 1)

module _ {R E : Type 0} (sought : Sought) where
  -- whether an answer is an entry that is looked for
  abbrev pub is_hit : Item R E → Bool
  is_hit (Ok e) = is_found sought e.depth e.file_type e.parent_path e.file_name e.seen
  is_hit (Err f) = false

  -- the number of further finds after these answers
  abbrev pub left_of : ℕ → List (Item R E) → ℕ
  left_of zero xs = zero
  left_of (suc n) [] = suc n
  left_of (suc n) (x ∷ xs) = left_of (if is_hit x then n else suc n) xs

  -- the answers up to the last that may be found
  abbrev pub first_of : ℕ → List (Item R E) → List (Item R E)
  first_of zero xs = []
  first_of (suc n) [] = []
  first_of (suc n) (x ∷ xs) = x ∷ first_of (if is_hit x then n else suc n) xs

  -- a limit after these answers
  abbrev pub left_after : Option ℕ → List (Item R E) → Option ℕ
  left_after None xs = None
  left_after (Some n) xs = Some (left_of n xs)

  -- the answers up to a limit: all of them, if there is none
  abbrev pub up_to : Option ℕ → List (Item R E) → List (Item R E)
  up_to None xs = xs
  up_to (Some n) xs = first_of n xs

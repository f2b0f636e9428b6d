-- Answers without those below a find.
use Rattle.std.specs.Prelude.{ℕ, nat_lt, Bool, false, ◌&&◌, List, [], ◌∷◌, Option, None, Some, Ok, Err, if◌then◌else◌}
use Rattle.jwalk_job.specs.Error.{depth_of}
use Rattle.jwalk_model.specs.Entry.{Item}
use Rattle.seek_words.specs.Sought.{Sought}
use Rattle.seek_found.specs.Limit.{is_hit}

module _ {R E : Type 0} where
  -- the depth of an answer
  abbrev pub depth_at : Item R E → ℕ
  depth_at (Ok e) = e.depth
  depth_at (Err f) = depth_of f

  -- whether an answer is deeper than a find, if there is one
  abbrev pub is_below : Option ℕ → Item R E → Bool
  is_below None x = false
  is_below (Some depth) x = nat_lt depth (depth_at x)

module _ {R E : Type 0} (sought : Sought) where
  -- the depth of an answer, if it is a find and nothing below it is looked for; an error makes no difference
  abbrev pub below_after : Option ℕ → Item R E → Option ℕ
  below_after below (Ok e) = if sought.prunes && is_hit sought (Ok e) then Some e.depth else None
  below_after below (Err f) = below

  -- the answers that aren't below a find, behind a find of this depth
  abbrev pub unpruned_behind : Option ℕ → List (Item R E) → List (Item R E)
  unpruned_behind below [] = []
  unpruned_behind below (x ∷ xs) = if is_below below x then unpruned_behind below xs else x ∷ unpruned_behind (below_after below x) xs

  -- the answers of a walk that aren't below a find, or all of them if what is below is looked for
  abbrev pub unpruned : List (Item R E) → List (Item R E)
  unpruned xs = if sought.prunes then unpruned_behind None xs else xs

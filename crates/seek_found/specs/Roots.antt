-- The text that is printed for answers below roots, whatever these are.
use Rattle.std.specs.Prelude.{◌≡◌, ◌⊎◌, ℕ, Bool, List, [], ◌∷◌, ◌++◌, Option}
use Rattle.std.specs.List.{list_all}
use Rattle.std.specs.Io.KnownBytes.{Appends}
use Rattle.jwalk_model.specs.Counted.{Worth}
use Rattle.jwalk_model.specs.Entry.{Item}
use Rattle.seek_words.specs.Sought.{Sought}
use Rattle.seek_words.specs.Layout.{Form}
use Rattle.seek_found.specs.Found.{found_lines, is_clean}
use Rattle.seek_found.specs.Limit.{left_after, up_to}

-- the possible answers below a root: all of them, or the first ones if the search may stop
abbrev pub Below : Type 1
Below = (may_stop : Type 0) → List ℕ → List (Item Worth Worth) → Type 0

-- The answers are those below each of these roots, one root after another. If the search may stop, they end below one
-- root, or before it.
unfoldable pub AreBelow : Below → Type 0 → List (List ℕ) → List (Item Worth Worth) → Type 0
AreBelow below may_stop [] answers = answers ≡ []
AreBelow below may_stop (root ∷ roots) answers =
    ((first : List (Item Worth Worth)) × ((rest : List (Item Worth Worth)) × below ⊥ root first × AreBelow below may_stop roots rest × (answers ≡ first ++ rest)))
    ⊎ (may_stop × ((answers ≡ []) ⊎ below may_stop root answers))

-- The line of each answer that is looked for was printed, and the result says whether all answers are clean. `are` says
-- which answers are possible. `left` is how many more may be found before, and `left'` after it.
pub record PrintsSuch (are : List (Item Worth Worth) → Type 0) (sought : Sought) (form : Form) (left left' : Option ℕ) (old new : Option (List ℕ)) (clean : Bool) : Type 0 where
  pub answers : List (Item Worth Worth)
  pub such : are answers
  pub within : up_to sought left answers ≡ answers
  pub limit : left' ≡ left_after sought left answers
  pub lines : Appends old new (found_lines sought form answers)
  pub all : clean ≡ list_all is_clean answers

-- What is counted below several roots.
use Rattle.std.specs.Prelude.{◌≡◌, ◌⊎◌, ℕ, Bool, true, List, [], ◌∷◌, ◌++◌, map, Option}
use Rattle.std.specs.List.{list_all}
use Rattle.jwalk.specs.jwalk_model.Counted.{Worth}
use Rattle.jwalk.specs.jwalk_model.declared.metadata.Identity.{Identity}
use Rattle.jwalk.specs.jwalk_model.Entry.{Item}
use Rattle.jwalk_subtotals.specs.Counted.{HaveSame, files_after}
use Rattle.jwalk_subtotals.specs.Files.{files_of}
use Rattle.jwalk_subtotals.specs.Subtotals.{Yielded, subtotals_beside}
use Rattle.jwalk_subtotals.specs.declared.options.SubtotalOptions.{SubtotalOptions}
use Rattle.tally_words.specs.declared.asked.Asked.{Asked}
use Rattle.tally_run.specs.Counting.{is_clean}
use Rattle.tally_run.specs.Results.{Row, Takes, rows_of}
use Rattle.tally_run.specs.Shown.{shown_asked}
use Rattle.tally_run.specs.Walks.{CountsBelow, subtotals_asked}
use Rattle.tally_run.specs.declared.counting.Counted.{Counted}
use Rattle.tally_run.specs.declared.results.Results.{Results}

module _ {R E : Type 0} where
  -- the files that are counted behind several lists of answers
  abbrev pub files_behind : SubtotalOptions → List Identity → List (List (Item R E)) → List Identity
  files_behind options files [] = files
  files_behind options files (l ∷ ls) = files_behind options (files_after options files l) ls

  -- the subtotals of several lists of answers, where each file counts once in all
  abbrev pub all_subtotals : SubtotalOptions → List Identity → List (List (Item R E)) → List (Yielded R E)
  all_subtotals options files [] = []
  all_subtotals options files (l ∷ ls) = subtotals_beside options files l ++ all_subtotals options (files_after options files l) ls

  -- the results that are written of them, a root for each list
  abbrev pub all_rows : Asked → List Identity → List (List ℕ) → List (List (Item R E)) → List Row
  all_rows asked files (root ∷ roots) (l ∷ ls) =
      rows_of root (shown_asked asked) (subtotals_beside (subtotals_asked asked) files l) ++ all_rows asked (files_after (subtotals_asked asked) files l) roots ls
  all_rows asked files _ _ = []

-- The second list is the first, but for some that are left out.
abbrev pub LeavesOut : {X : Type 0} → List X → List X → Type 0
LeavesOut [] left = left ≡ []
LeavesOut {X} (x ∷ xs) left = ((rest : List X) × (left ≡ x ∷ rest) × LeavesOut xs rest) ⊎ LeavesOut xs left

-- The second list is the first, but for some behind its first element that are left out.
abbrev pub KeepsFirst : {X : Type 0} → List X → List X → Type 0
KeepsFirst [] left = left ≡ []
KeepsFirst {X} (x ∷ xs) left = (rest : List X) × (left ≡ x ∷ rest) × LeavesOut xs rest

-- A root is left out, and nothing is taken.
pub record IsLeftOut (known : List Identity) (old : Results) (before : Option (List ℕ)) (new : Results) (after : Option (List ℕ)) (counted : Counted) : Type 0 where
  pub untaken : new ≡ old
  pub unwritten : after ≡ before
  pub remembered : files_of counted.files ≡ known
  pub without_error : counted.clean ≡ true

-- What is below a root is counted, or it is left out.
abbrev pub CountsRoot : Type 0 → (List (Item Worth Worth) → Type 0) → List (Item Worth Worth) → Asked → List ℕ → List Identity → Results → Option (List ℕ) → Results → Option (List ℕ) → Counted → Type 0
CountsRoot fixed are below asked root known old before new after counted =
    IsLeftOut known old before new after counted ⊎ CountsBelow fixed are below asked root known old before new after counted

-- Each of these lists of answers is one that is possible below its root.
abbrev pub AreSuch : (List ℕ → List (Item Worth Worth) → Type 0) → List (List ℕ) → List (List (Item Worth Worth)) → Type 0
AreSuch are [] [] = Unit {0}
AreSuch are (root ∷ roots) (l ∷ ls) = are root l × AreSuch are roots ls
AreSuch are _ _ = ⊥

-- Roots are counted beside the files that are known, but for some that are left out, none of which is the first if no root was known before. What is written of the subtotals of answers, a possible list for each root that is counted, is taken, of all in one, with each root as it was named. It is known whether one has an error, and which files are counted now. If none has, and what is gone over always returns the same, the lists are the whole walks below the roots.
pub record CountsMany (fixed : Type 0) (are : List ℕ → List (Item Worth Worth) → Type 0) (below : List ℕ → List (Item Worth Worth)) (asked : Asked) (none_before : Type 0) (roots : List (List ℕ)) (known : List Identity) (old : Results) (before : Option (List ℕ)) (new : Results) (after : Option (List ℕ)) (files : List Identity) (clean : Bool) : Type 0 where
  pub counted : List (List ℕ)
  pub among : LeavesOut roots counted
  pub first : none_before → KeepsFirst roots counted
  pub answered : List (List (Item Worth Worth))
  pub such : AreSuch are counted answered
  pub whole : fixed → clean ≡ true → answered ≡ map below counted
  pub taken : Takes (all_rows asked known counted answered) old before new after
  pub tells : clean ≡ list_all is_clean (all_subtotals (subtotals_asked asked) known answered)
  pub remembered : HaveSame files (files_behind (subtotals_asked asked) known answered)

-- The same from the beginning, with no root and no file known. The first root is counted.
pub record CountsRoots (fixed : Type 0) (are : List ℕ → List (Item Worth Worth) → Type 0) (below : List ℕ → List (Item Worth Worth)) (asked : Asked) (roots : List (List ℕ)) (old : Results) (before : Option (List ℕ)) (new : Results) (after : Option (List ℕ)) (clean : Bool) : Type 0 where
  pub counted : List (List ℕ)
  pub among : KeepsFirst roots counted
  pub answered : List (List (Item Worth Worth))
  pub such : AreSuch are counted answered
  pub whole : fixed → clean ≡ true → answered ≡ map below counted
  pub taken : Takes (all_rows asked [] counted answered) old before new after
  pub tells : clean ≡ list_all is_clean (all_subtotals (subtotals_asked asked) [] answered)

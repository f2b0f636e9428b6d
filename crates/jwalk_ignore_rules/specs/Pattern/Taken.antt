-- How far a pattern goes before its next star.
use Rattle.std.specs.Prelude.{ℕ, ◌+◌, List, ◌∷◌, ◌↔◌, length, drop}
use Rattle.jwalk_ignore_rules.specs.Pattern.Fits.{Fits}
use Rattle.jwalk_ignore_rules.specs.declared.pattern.part.Part.{Part}
use Rattle.jwalk_ignore_rules.specs.declared.pattern.part.Part.TheVariants.{Many}
use Rattle.jwalk_ignore_rules.specs.declared.pattern.taken.Taken.{Taken}
use Rattle.jwalk_ignore_rules.specs.declared.pattern.taken.Taken.TheVariants.{Misfit, Whole, ToStar}

-- how many parts are left, with the star
abbrev pub left_over : {T : Type 0} → Taken T → ℕ
left_over Misfit = 0
left_over Whole = 0
left_over (ToStar behind left) = length behind.now + 1

module _ {T X : Type 0} (takes : T → X → Type 0) (items : List ℕ → List X) where
  -- what was taken decides whether all fits, or what is left does
  abbrev pub Decides : Taken T → Type 0 → Type 0
  Decides Misfit all = all → ⊥
  Decides Whole all = all
  Decides (ToStar behind left) all = all ↔ Fits takes (Many ∷ behind.now) (items left.now)

  -- where a pattern fits a text from its item `n` on, what is left of it fits what is left from its item `n` on
  abbrev pub LeavesLater : Taken T → List (Part T) → List X → Type 0
  LeavesLater Misfit parts text = Unit {0}
  LeavesLater Whole parts text = Unit {0}
  LeavesLater (ToStar behind left) parts text =
      (n : ℕ) → Fits takes parts (drop n text) → Fits takes (Many ∷ behind.now) (drop n (items left.now))

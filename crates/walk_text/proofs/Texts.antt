-- Numbers and targets, and what follows them.
use Rattle.std.proofs.Common.{◌≡◌, ◌≢◌, ℕ, ◌<◌, List, [], length, get_or, arith, sym, subst, ◌∙◌, Option, Some, None, IfNone, MatchOption, Bor}
use Rattle.std.specs.Str.Parse.{AllDigits}
use Rattle.std.proofs.lemmas.Str.Parse.{not_in_digits, numerals_by_value, tells_digits}
use Rattle.std.proofs.lemmas.Str.Pattern.{IsSplitOnceResult, split_after}
use Rattle.walk_text.specs.Number.{IsNumber}
use Rattle.walk_text.specs.TreeLine.{HasSizedPath, IsSizedPath, HasLinkedPath, IsLinkedPath}

-- digits hold no space
no_space : (digits : List ℕ) → AllDigits 10 digits → (i : ℕ) → i < length digits → get_or digits i 0 ≢ 32
no_space digits all = not_in_digits (numerals_by_value _ tells_digits) digits 32 all (λ h. absurd (omega arith))

-- a length ends at the first space
ends_length : (text digits path : List ℕ) (r : Option (Bor (List ℕ) × Bor (List ℕ))) → IsSplitOnceResult 32 text r → IsSizedPath text digits path → MatchOption r ⊥ (λ x. (x.0.now ≡ digits) × (x.1.now ≡ path))
ends_length text digits path r splits is = split_after 32 text digits path r splits (omega arith) is.0 (no_space digits is.1.digits)

-- a text with no space has no length and path
pub unsplit : (text : List ℕ) → IsSplitOnceResult 32 text None → ¬ (HasSizedPath text)
unsplit text splits (digits, path, is) = ends_length text digits path None splits is

-- neither has one whose part before the first space is no number
pub no_number : (text : List ℕ) (x : Bor (List ℕ) × Bor (List ℕ)) → IsSplitOnceResult 32 text (Some x) → ¬ (IsNumber x.0.now) → ¬ (HasSizedPath text)
no_number text x splits none (digits, path, is) = let ends = ends_length text digits path (Some x) splits is in none (subst IsNumber (sym ends.0) is.1)

-- nor has one with nothing behind its first space
pub no_path : (text : List ℕ) (x : Bor (List ℕ) × Bor (List ℕ)) → IsSplitOnceResult 32 text (Some x) → x.1.now ≡ [] → ¬ (HasSizedPath text)
no_path text x splits empty (digits, path, is) = let ends = ends_length text digits path (Some x) splits is in is.2 (sym ends.1 ∙ empty)

-- a target ends at the first tab
ends_target : (text target path : List ℕ) (r : Option (Bor (List ℕ) × Bor (List ℕ))) → IsSplitOnceResult 9 text r → IsLinkedPath text target path → MatchOption r ⊥ (λ x. (x.0.now ≡ target) × (x.1.now ≡ path))
ends_target text target path r splits is = split_after 9 text target path r splits (omega arith) is.0 is.1

-- a text with no tab has no target and path
pub no_tab : (text : List ℕ) → IsSplitOnceResult 9 text None → ¬ (HasLinkedPath text)
no_tab text splits (target, path, is) = ends_target text target path None splits is

-- nor has one with nothing behind its first tab
pub no_linked_path : (text : List ℕ) (x : Bor (List ℕ) × Bor (List ℕ)) → IsSplitOnceResult 9 text (Some x) → x.1.now ≡ [] → ¬ (HasLinkedPath text)
no_linked_path text x splits empty (target, path, is) = let ends = ends_target text target path (Some x) splits is in is.2 (sym ends.1 ∙ empty)

-- what holds, holds where there is nothing
pub on_none : {T P : Type 0} (r : Option T) → P → IfNone r P
on_none None p = p
on_none (Some x) p = tt

-- and so does what follows from it
pub on_none_weaker : {T P Q : Type 0} (r : Option T) → (P → Q) → IfNone r P → IfNone r Q
on_none_weaker None f p = f p
on_none_weaker (Some x) f p = tt

-- Sums of subtotals.
use Rattle.std.proofs.Common.{◌≡◌, ◌+◌, ℕ, List, [], ◌∷◌, ◌++◌, sym, ap, ◌∙◌, arith}
use Rattle.jwalk_subtotals.specs.declared.subtotal.Subtotal.{Subtotal}
use Rattle.jwalk_subtotals.specs.Subtotal.{nothing, plus}
use Rattle.jwalk_subtotals.specs.Counted.{Weighed}
use Rattle.jwalk_subtotals.specs.Subtotals.{total}

-- the subtotal of seven numbers
abbrev pub of_numbers : ℕ → ℕ → ℕ → ℕ → ℕ → ℕ → ℕ → Subtotal
of_numbers bytes file_bytes files dirs links others errors = record { bytes = bytes; file_bytes = file_bytes; files = files; dirs = dirs; links = links; others = others; errors = errors }

-- subtotals whose numbers are the same are the same
pub by_numbers : (a a' b b' c c' d d' e e' f f' g g' : ℕ) → a ≡ a' → b ≡ b' → c ≡ c' → d ≡ d' → e ≡ e' → f ≡ f' → g ≡ g' → of_numbers a b c d e f g ≡ of_numbers a' b' c' d' e' f' g'
by_numbers a a' b b' c c' d d' e e' f f' g g' p q r s t u v = cc

assoc : (a b c : ℕ) → (a + b) + c ≡ a + (b + c)
assoc a b c = omega arith

zero_right : (a : ℕ) → a + 0 ≡ a
zero_right a = omega arith

pub plus_assoc : (a b c : Subtotal) → plus (plus a b) c ≡ plus a (plus b c)
plus_assoc a b c = by_numbers _ _ _ _ _ _ _ _ _ _ _ _ _ _
    (assoc a.bytes b.bytes c.bytes) (assoc a.file_bytes b.file_bytes c.file_bytes) (assoc a.files b.files c.files) (assoc a.dirs b.dirs c.dirs) (assoc a.links b.links c.links) (assoc a.others b.others c.others) (assoc a.errors b.errors c.errors)

pub plus_nothing : (a : Subtotal) → plus a nothing ≡ a
plus_nothing a = by_numbers _ _ _ _ _ _ _ _ _ _ _ _ _ _
    (zero_right a.bytes) (zero_right a.file_bytes) (zero_right a.files) (zero_right a.dirs) (zero_right a.links) (zero_right a.others) (zero_right a.errors)

pub nothing_plus : (a : Subtotal) → plus nothing a ≡ a
nothing_plus a = by_numbers _ _ _ _ _ _ _ _ _ _ _ _ _ _
    (omega arith) (omega arith) (omega arith) (omega arith) (omega arith) (omega arith) (omega arith)

module _ {R E : Type 0} where
  pub total_append : (l m : List (Weighed R E)) → total (l ++ m) ≡ plus (total l) (total m)
  total_append [] m = sym (nothing_plus (total m))
  total_append (w ∷ l) m = ap (plus w.1) (total_append l m) ∙ sym (plus_assoc w.1 (total l) (total m))

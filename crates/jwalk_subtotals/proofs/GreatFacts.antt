-- Numbers that are too great, and what is open.
use Rattle.std.proofs.Common.{◌≤◌, ◌^◌, ℕ, max, Bool, true, false, List, [], ◌∷◌, arith}
use Rattle.jwalk.specs.jwalk_model.Entry.{Entry}
use Rattle.jwalk_subtotals.specs.declared.subtotal.Subtotal.{Subtotal}
use Rattle.jwalk_subtotals.specs.Subtotal.{nothing, plus, IsTooGreat}
use Rattle.jwalk_subtotals.specs.Stack.{Frame, added, entered, left_of, open_total, AreTooMany, CannotClose}

either : (n a b a' b' : ℕ) → a ≤ a' → (n ≤ b → n ≤ b') → n ≤ max a b → n ≤ max a' b'
either n a b a' b' first second most = grind arith

-- what is as great in each number is too great if the other is
pub great_by : (a b : Subtotal) → a.bytes ≤ b.bytes → a.file_bytes ≤ b.file_bytes → a.files ≤ b.files → a.dirs ≤ b.dirs → a.links ≤ b.links → a.others ≤ b.others → a.errors ≤ b.errors → IsTooGreat a → IsTooGreat b
great_by a b p q r s t u v =
    let n : ℕ = 2 ^ 128 in
    either n _ _ _ _ p (either n _ _ _ _ q (either n _ _ _ _ r (either n _ _ _ _ s (either n _ _ _ _ t (either n _ _ _ _ u (λ h. omega (arith, h, v)))))))

-- one more open entry
opened_great : (t more all : Subtotal) → IsTooGreat (plus (plus t all) more) → IsTooGreat (plus all (plus t more))
opened_great t more all = great_by (plus (plus t all) more) (plus all (plus t more)) (omega arith) (omega arith) (omega arith) (omega arith) (omega arith) (omega arith) (omega arith)

module _ {R E : Type 0} where
  -- what is counted below the last open entry
  pub added_great : (t more : Subtotal) (fs : List (Frame R E)) → IsTooGreat (plus (open_total (added t fs)) more) → IsTooGreat (plus (open_total fs) (plus t more))
  added_great t more [] = great_by (plus nothing more) (plus nothing (plus t more)) (omega arith) (omega arith) (omega arith) (omega arith) (omega arith) (omega arith) (omega arith)
  added_great t more (f ∷ fs) = great_by (plus (plus (plus f.counted t) (open_total fs)) more) (plus (plus f.counted (open_total fs)) (plus t more)) (omega arith) (omega arith) (omega arith) (omega arith) (omega arith) (omega arith) (omega arith)

  -- an entry that came
  pub entered_great : (b : Bool) (e : Entry R E) (t more : Subtotal) (fs : List (Frame R E)) → IsTooGreat (plus (open_total (entered b e t fs)) more) → IsTooGreat (plus (open_total fs) (plus t more))
  entered_great true e t more fs = opened_great t more (open_total fs)
  entered_great false e t more fs = added_great t more fs

  -- the last open entry closed
  pub left_great : (more : Subtotal) (fs : List (Frame R E)) → IsTooGreat (plus (open_total (left_of fs)) more) → IsTooGreat (plus (open_total fs) more)
  left_great more [] h = h
  left_great more (f ∷ fs) h = great_by (plus (open_total fs) (plus f.counted more)) (plus (plus f.counted (open_total fs)) more) (omega arith) (omega arith) (omega arith) (omega arith) (omega arith) (omega arith) (omega arith) (added_great f.counted more fs h)

  -- too much below the last open entry
  pub many_great : (t more : Subtotal) (fs : List (Frame R E)) → AreTooMany t fs → IsTooGreat (plus (open_total fs) (plus t more))
  many_great t more [] h = absurd h
  many_great t more (f ∷ fs) h = great_by (plus f.counted t) (plus (plus f.counted (open_total fs)) (plus t more)) (omega arith) (omega arith) (omega arith) (omega arith) (omega arith) (omega arith) (omega arith) h

  pub close_great : (more : Subtotal) (fs : List (Frame R E)) → CannotClose fs → IsTooGreat (plus (open_total fs) more)
  close_great more [] h = absurd h
  close_great more (f ∷ fs) h = great_by (plus (open_total fs) (plus f.counted more)) (plus (plus f.counted (open_total fs)) more) (omega arith) (omega arith) (omega arith) (omega arith) (omega arith) (omega arith) (omega arith) (many_great f.counted more fs h)

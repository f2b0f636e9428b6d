-- Results that are taken one after another.
use Rattle.std.proofs.Common.{◌≡◌, ◌∙◌, ◌+◌, ℕ, Bool, true, false, List, [], ◌∷◌, ◌++◌, append-nil, add-zero, Option, None, ap, refl, sym, subst, arith}
use Rattle.std.specs.Prelude.{cond, filter}
use Rattle.std.specs.Io.KnownBytes.{Appends, append_known}
use Rattle.std.proofs.KnownBytes.{Appends-nil, Appends-trans}
use Rattle.std.proofs.lemmas.Grind.{flat_map-append}
use Rattle.std.proofs.lemmas.List.Elements.{filter-append}
use Rattle.std.proofs.lemmas.List.Sums.{sum_by-append}
use Rattle.program_parts.specs.declared.paths.Style.{Style}
use Rattle.tally_words.specs.declared.threshold.Threshold.{Threshold}
use Rattle.tally_text.specs.Nodes.{IsLeftOut, IsPushed, largest_of, trees_of}
use Rattle.tally_text.specs.declared.node.Node.{Node}
use Rattle.tally_text.specs.declared.scale.Scale.{Scale}
use Rattle.tally_run.specs.Results.{ArePushed, IsPut, LeavesOut, Row, Takes, TakesInto, gathered_of, is_row_large, lines_text, numbers_of, root_bytes, row_line, scale_of, style_of}
use Rattle.tally_run.specs.declared.results.Results.{Results}
use Rattle.tally_run.specs.declared.results.Shape.{Shape}
use Rattle.tally_run.specs.declared.results.Shape.TheVariants as shapes

-- one result's line
pub one_line : (old new : Option (List ℕ)) (scale : Scale) (style : Style) (r : Row) → Appends old new (row_line scale style r) → Appends old new (lines_text scale style (r ∷ []))
one_line old new scale style r line = subst (Appends old new) (sym (append-nil (row_line scale style r))) line

-- one result's tree
pub one_tree : (largest : Option ℕ) (r : Row) (old new : List Node) → IsPushed largest r.depth r.name (numbers_of r.subtotal) old new → ArePushed None largest (r ∷ []) old new
one_tree largest r old new pushed = (new, pushed, refl)

-- lines behind others
pub lines_then : (xs ys : List Row) (scale scale' : Scale) (style style' : Style) (a b c : Option (List ℕ)) → scale' ≡ scale → style' ≡ style
    → Appends a b (lines_text scale style xs) → Appends b c (lines_text scale' style' ys) → Appends a c (lines_text scale style (xs ++ ys))
lines_then xs ys scale scale' style style' a b c scale_is style_is first second =
    subst (Appends a c) (sym (flat_map-append (row_line scale style) xs ys))
    (Appends-trans a b c (lines_text scale style xs) (lines_text scale style ys) first
    (subst (λ (s : Style). Appends b c (lines_text scale s ys)) style_is (subst (λ (s : Scale). Appends b c (lines_text s style' ys)) scale_is second)))

pushed_then : (threshold : Option Threshold) (largest : Option ℕ) (xs ys : List Row) (a b c : List Node) → ArePushed threshold largest xs a b → ArePushed threshold largest ys b c → ArePushed threshold largest (xs ++ ys) a c
pushed_then threshold largest [] ys a b c first second = subst (λ (l : List Node). ArePushed threshold largest ys l c) first second
pushed_then threshold largest (x ∷ xs) ys a b c first second = (first.0, first.1, pushed_then threshold largest xs ys first.0 b c first.2 second)

-- every size is written without a threshold
pub filter_all : (rows : List Row) → filter (is_row_large None) rows ≡ rows
filter_all [] = refl
filter_all (r ∷ rows) = ap (λ l. r ∷ l) (filter_all rows)

into_none : (threshold : Option Threshold) (a : Shape) (p : Option (List ℕ)) → TakesInto threshold [] a p a p
into_none threshold (shapes.Lines a) p = (Appends-nil (append_known p (gathered_of a)), refl, refl)
into_none threshold (shapes.Trees a) p = (refl, refl, refl)

-- no results
pub takes_none : (a : Results) (p : Option (List ℕ)) → Takes [] a p a p
takes_none a p = record { sizes = refl; sum = sym (add-zero a.total); into = into_none a.threshold a.shape p }

into_then : (threshold : Option Threshold) (xs ys : List Row) (a b c : Shape) (p q r : Option (List ℕ)) → TakesInto threshold xs a p b q → TakesInto threshold ys b q c r → TakesInto threshold (xs ++ ys) a p c r
into_then threshold xs ys (shapes.Lines a) (shapes.Lines b) (shapes.Lines c) p q r first second = (
  subst (λ (rows : List Row). Appends (append_known p (gathered_of a)) (append_known r (gathered_of c)) (lines_text (scale_of a) (style_of a) rows)) (sym (filter-append (is_row_large threshold) xs ys))
      (lines_then (filter (is_row_large threshold) xs) (filter (is_row_large threshold) ys) (scale_of a) (scale_of b) (style_of a) (style_of b) (append_known p (gathered_of a)) (append_known q (gathered_of b)) (append_known r (gathered_of c)) first.1 first.2 first.0 second.0),
  second.1 ∙ first.1,
  second.2 ∙ first.2,
)
into_then threshold xs ys (shapes.Trees a) (shapes.Trees b) (shapes.Trees c) p q r first second = (
  second.0 ∙ first.0,
  pushed_then threshold (largest_of a) xs ys (trees_of a) (trees_of b) (trees_of c) first.1 (subst (λ (n : Option ℕ). ArePushed threshold n ys (trees_of b) (trees_of c)) first.2 second.1),
  second.2 ∙ first.2,
)
into_then threshold xs ys (shapes.Lines a) (shapes.Trees b) c p q r first second = absurd first
into_then threshold xs ys (shapes.Trees a) (shapes.Lines b) c p q r first second = absurd first
into_then threshold xs ys (shapes.Lines a) (shapes.Lines b) (shapes.Trees c) p q r first second = absurd second
into_then threshold xs ys (shapes.Trees a) (shapes.Trees b) (shapes.Lines c) p q r first second = absurd second

-- results behind others
pub takes_then : (xs ys : List Row) (a b c : Results) (p q r : Option (List ℕ)) → Takes xs a p b q → Takes ys b q c r → Takes (xs ++ ys) a p c r
takes_then xs ys a b c p q r first second =
    let both = sum_by-append (λ (x : Row). root_bytes x.depth x.subtotal.bytes) xs ys in
    record {
      sizes = second.sizes ∙ first.sizes;
      sum = let one = first.sum in let other = second.sum in omega (arith, one, other, both);
      into = into_then a.threshold xs ys a.shape b.shape c.shape p q r first.into (subst (λ (t : Option Threshold). TakesInto t ys b.shape q c.shape r) first.sizes second.into);
    }

-- a result whose size is written is taken
put_by : (large : Bool) (r : Row) (largest : Option ℕ) (a b : List Node) → large ≡ true → IsPushed largest r.depth r.name (numbers_of r.subtotal) a b → IsPut large largest r a b
put_by true r largest a b is pushed = pushed
put_by false r largest a b is pushed = absurd (cc is)

kept_line : (large : Bool) (rest : List Row) (r : Row) → large ≡ true → cond large (r ∷ rest) rest ≡ r ∷ rest
kept_line true rest r is = refl
kept_line false rest r is = absurd (cc is)

left_line : (large : Bool) (rest : List Row) (r : Row) → large ≡ false → cond large (r ∷ rest) rest ≡ rest
left_line true rest r is = absurd (cc is)
left_line false rest r is = refl

pub into_kept : (threshold : Option Threshold) (r : Row) (a b : Shape) (p q : Option (List ℕ)) → is_row_large threshold r ≡ true → TakesInto None (r ∷ []) a p b q → TakesInto threshold (r ∷ []) a p b q
into_kept threshold r (shapes.Lines a) (shapes.Lines b) p q is takes = (
  subst (λ (rows : List Row). Appends (append_known p (gathered_of a)) (append_known q (gathered_of b)) (lines_text (scale_of a) (style_of a) rows)) (sym (kept_line (is_row_large threshold r) [] r is)) takes.0,
  takes.1,
  takes.2,
)
into_kept threshold r (shapes.Trees a) (shapes.Trees b) p q is takes = (
  takes.0,
  (takes.1.0, put_by (is_row_large threshold r) r (largest_of a) (trees_of a) takes.1.0 is takes.1.1, takes.1.2),
  takes.2,
)
into_kept threshold r (shapes.Lines a) (shapes.Trees b) p q is takes = absurd takes
into_kept threshold r (shapes.Trees a) (shapes.Lines b) p q is takes = absurd takes

left_by : (large : Bool) (r : Row) (largest : Option ℕ) (a b : List Node) → large ≡ false → IsLeftOut r.depth a b → IsPut large largest r a b
left_by true r largest a b is left = absurd (cc is)
left_by false r largest a b is left = left

-- one whose size isn't written is left out
pub into_left : (threshold : Option Threshold) (r : Row) (a b : Shape) (p : Option (List ℕ)) → is_row_large threshold r ≡ false → LeavesOut r.depth a b → TakesInto threshold (r ∷ []) a p b p
into_left threshold r (shapes.Lines a) (shapes.Lines b) p is left =
    subst (λ (it : Shape). TakesInto threshold (r ∷ []) (shapes.Lines a) p it p) (ap shapes.Lines (sym left)) (
      subst (λ (rows : List Row). Appends (append_known p (gathered_of a)) (append_known p (gathered_of a)) (lines_text (scale_of a) (style_of a) rows)) (sym (left_line (is_row_large threshold r) [] r is)) (Appends-nil (append_known p (gathered_of a))),
      refl,
      refl,
    )
into_left threshold r (shapes.Trees a) (shapes.Trees b) p is left = (
  refl,
  (trees_of b, left_by (is_row_large threshold r) r (largest_of a) (trees_of a) (trees_of b) is left.0, refl),
  left.1,
)
into_left threshold r (shapes.Lines a) (shapes.Trees b) p is left = absurd left
into_left threshold r (shapes.Trees a) (shapes.Lines b) p is left = absurd left

-- one result, and what it adds to the sum of all roots
pub takes_one : (r : Row) (a b : Results) (p q : Option (List ℕ)) → b.threshold ≡ a.threshold → b.total ≡ a.total + root_bytes r.depth r.subtotal.bytes → TakesInto a.threshold (r ∷ []) a.shape p b.shape q → Takes (r ∷ []) a p b q
takes_one r a b p q sizes sum into = record { sizes = sizes; sum = omega (arith, sum); into = into }

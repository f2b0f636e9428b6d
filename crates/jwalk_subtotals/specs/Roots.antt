-- What the subtotals of answers that lie beside each other come to.
use Rattle.std.specs.Prelude.{◌≡◌, ℕ, zero, suc, true, List, [], ◌∷◌, length}
use Rattle.jwalk.specs.jwalk_model.Entry.{Item}
use Rattle.jwalk_usage.specs.declared.report.Usage.{Usage}
use Rattle.jwalk_usage.specs.Kept.{kept_totals}
use Rattle.jwalk_subtotals.specs.declared.subtotal.Subtotal.{Subtotal}
use Rattle.jwalk_subtotals.specs.declared.options.SubtotalOptions.{SubtotalOptions}
use Rattle.jwalk_subtotals.specs.Subtotal.{nothing, plus}
use Rattle.jwalk_subtotals.specs.Counted.{Weighed, weighed}
use Rattle.jwalk_subtotals.specs.Subtotals.{depth_at, below, beyond, total, subtotal}

-- the sum of subtotals
abbrev pub sum_of : List Subtotal → Subtotal
sum_of [] = nothing
sum_of (t ∷ ts) = plus t (sum_of ts)

-- a subtotal as a usage, whose bytes are those of files alone
abbrev pub usage_in : Subtotal → Usage
usage_in t = record { files = t.files; dirs = t.dirs; links = t.links; others = t.others; errors = t.errors; bytes = t.file_bytes }

module _ {R E : Type 0} where
  -- the subtotals of the roots among the first answers, as many as the number says: of the first, and of those not below it
  abbrev pub roots_among : ℕ → List (Weighed R E) → List Subtotal
  roots_among zero l = []
  roots_among (suc n) [] = []
  roots_among (suc n) (w ∷ l) = subtotal w l ∷ roots_among n (beyond (depth_at w.0) l)

  -- the subtotals of the roots of a list of answers, which have no shallower one and none as deep before them that they are below
  abbrev pub root_subtotals : List (Weighed R E) → List Subtotal
  root_subtotals l = roots_among (length l) l

-- The subtotal of an answer is what it counts by itself and the subtotals of what lies directly in it.
abbrev pub SubtotalsAddUp : Type 0 → Type 0 → Type 0
SubtotalsAddUp R E = (w : Weighed R E) (behind : List (Weighed R E)) → subtotal w behind ≡ plus w.1 (sum_of (root_subtotals (below (depth_at w.0) behind)))

-- The subtotals of the roots come to what all answers count.
abbrev pub RootsAreAll : Type 0 → Type 0 → Type 0
RootsAreAll R E = (l : List (Weighed R E)) → sum_of (root_subtotals l) ≡ total l

-- Where each name is counted, they come to the totals by what entries keep.
abbrev pub RootsAreTotals : Type 0 → Type 0 → Type 0
RootsAreTotals R E = (options : SubtotalOptions) (l : List (Item R E)) → options.each_name ≡ true → usage_in (sum_of (root_subtotals (weighed options [] l))) ≡ kept_totals l

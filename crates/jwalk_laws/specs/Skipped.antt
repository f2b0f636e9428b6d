-- A walk of which parts are skipped while it is under way.
use Rattle.std.specs.Prelude.{List, [], ◌∷◌}
use Rattle.jwalk.specs.jwalk_model.Counted.{Worth}
use Rattle.jwalk.specs.jwalk_model.Entry.{Item}
use Rattle.jwalk.specs.jwalk_job.Given.{Given, counted_item}
use Rattle.jwalk.specs.jwalk_readings.declared.readings.Readings as Readings
use Rattle.jwalk.specs.jwalk_iter.declared.entries.Entries.{Entries}
use Rattle.jwalk.specs.jwalk_iter.Entries.{ComesFirst, Drops}

-- The first list is the second without some of its elements, in the same order.
pub data IsPartOf {X : Type 0} : List X → List X → Type 0 where
  none_left : IsPartOf [] []
  one_kept : {x : X} {xs ys : List X} → IsPartOf xs ys → IsPartOf (x ∷ xs) (x ∷ ys)
  one_left_out : {y : X} {xs ys : List X} → IsPartOf xs ys → IsPartOf xs (y ∷ ys)

-- A walk yields these answers, and parts of it are skipped before, between and behind them.
pub data YieldsSkipping {C A B R E : Type 0} (readings : Readings.Ghosts B C A R E) (given : Given R E) : Entries C A B R E → List (Item Worth Worth) → Entries C A B R E → Type 0 where
  over : {it : Entries C A B R E} → YieldsSkipping readings given it [] it
  one_yielded : {old mid new : Entries C A B R E} (x : Item R E) {found : List (Item Worth Worth)} → ComesFirst readings given old (x ∷ []) mid → YieldsSkipping readings given mid found new → YieldsSkipping readings given old (counted_item given x ∷ found) new
  some_skipped : {old mid new : Entries C A B R E} {found : List (Item Worth Worth)} → Drops readings old mid → YieldsSkipping readings given mid found new → YieldsSkipping readings given old found new

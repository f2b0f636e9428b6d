-- What comes of a walk of which parts are skipped is a part of what was to come, in its order.
use Rattle.std.proofs.Common.{List, [], ◌∷◌, ◌++◌, sym, subst}
use Rattle.jwalk.specs.jwalk_model.Counted.{Worth}
use Rattle.jwalk.specs.jwalk_model.Entry.{Item}
use Rattle.jwalk.specs.jwalk_job.Given.{Given, counted_item}
use Rattle.jwalk.specs.jwalk_readings.declared.readings.Readings as Readings
use Rattle.jwalk.specs.jwalk_iter.declared.entries.Entries.{Entries}
use Rattle.jwalk.specs.jwalk_iter.Entries.{to_come, dropped_to_come}
use Rattle.jwalk_laws.specs.Skipped.{IsPartOf, none_left, one_kept, one_left_out, YieldsSkipping, over, one_yielded, some_skipped}

-- all of a list is a part of it
part_itself : {X : Type 0} (xs : List X) → IsPartOf xs xs
part_itself [] = none_left
part_itself (x ∷ xs) = one_kept (part_itself xs)

-- and a part stays one behind what is left out
part_behind : {X : Type 0} (gone xs ys : List X) → IsPartOf xs ys → IsPartOf xs (gone ++ ys)
part_behind [] xs ys part = part
part_behind (x ∷ gone) xs ys part = one_left_out (part_behind gone xs ys part)

module _ {C A B R E : Type 0} (readings : Readings.Ghosts B C A R E) (given : Given R E) where
  -- What was yielded, and then what is still to come, is a part of what was to come before.
  pub in_order : {old new : Entries C A B R E} {found : List (Item Worth Worth)} → YieldsSkipping readings given old found new → IsPartOf (found ++ to_come readings given new) (to_come readings given old)
  in_order (over {it}) = part_itself (to_come readings given it)
  in_order (one_yielded {old} {mid} {new} x {found} first rest) =
      subst (IsPartOf (counted_item given x ∷ (found ++ to_come readings given new))) (sym first) (one_kept (in_order rest))
  in_order (some_skipped {old} {mid} {new} {found} drops rest) =
      subst (IsPartOf (found ++ to_come readings given new)) (sym (drops.coming given))
      (part_behind (dropped_to_come readings given old) (found ++ to_come readings given new) (to_come readings given mid) (in_order rest))

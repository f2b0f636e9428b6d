-- Lists whose entries at other depths are dropped.
use Rattle.std.proofs.Common.{◌≡◌, ◌∙◌, ℕ, Bool, true, false, cond, List, [], ◌∷◌, map, Ok, Err, refl, ap, arith}
use Rattle.std.specs.Prelude.{◌==◌, Option, Result, OnOk}
use Rattle.std.specs.List.{filter}
use Rattle.std.proofs.lemmas.Bool.Decides.{nat_tests}
use Rattle.jwalk_model.specs.Entry.{Item, AtDepth}
use Rattle.jwalk_model.specs.ReadDir.{list_depth}
use Rattle.jwalk_job.specs.Given.{Given, IsProcessed}
use Rattle.jwalk_job.proofs.GivenFacts.{depth_of_made}
use Rattle.jwalk_callbacks.specs.ByFn.{is_at, Keeps}

test_of : {depth : ℕ} (d : ℕ) → d ≡ depth → (d == depth) ≡ true
test_of d e = grind (arith, nat_tests)

module _ {R E X : Type 0} (view : X → Item R E) (depth : ℕ) where
  abbrev stays : X → Bool
  stays x = is_at depth (view x)

  left_by : (x : X) (i : Item R E) (xs : List X) (b : Bool) → view x ≡ i → is_at depth i ≡ b → AtDepth depth (map view (filter stays xs)) → AtDepth depth (map view (cond b (x ∷ filter stays xs) (filter stays xs)))
  left_by x (Ok e) xs true is b h = rw is ((let t : (e.depth == depth) ≡ true = b in grind (arith, nat_tests)), h)
  left_by x (Err f) xs true is b h = rw is h
  left_by x i xs false is b h = h

  -- what is left is at the depth
  pub all_left : (xs : List X) → AtDepth depth (map view (filter stays xs))
  all_left [] = tt
  all_left (x ∷ xs) = left_by x (view x) xs (stays x) refl refl (all_left xs)

  stays_at : (x : X) (i : Item R E) (xs : List X) → view x ≡ i → AtDepth depth (i ∷ map view xs) → (is_at depth i ≡ true) × AtDepth depth (map view xs)
  stays_at x (Ok e) xs is h = (test_of e.depth h.0, h.1)
  stays_at x (Err f) xs is h = (refl, h)

  -- of a list at the depth nothing is dropped
  pub none_dropped : (xs : List X) → AtDepth depth (map view xs) → filter stays xs ≡ xs
  none_dropped [] h = refl
  none_dropped (x ∷ xs) h = let k = stays_at x (view x) xs refl h in rw k.0 (ap (λ l. x ∷ l) (none_dropped xs k.1))

-- what is kept of a list that was left, by the depth that was counted
pub keeps : {R E X : Type 0} (view : X → Item R E) (own depth : ℕ) (left kept : List X) → own ≡ depth → kept ≡ filter (λ x. is_at own (view x)) left → Keeps view depth left kept
keeps view own depth left kept same is =
    let here : kept ≡ filter (λ x. is_at depth (view x)) left = rw same at is in
    record { at_depth = here; all = λ deep. here ∙ none_dropped view depth left deep }

-- what was made of a list at its depth is kept whole
pub made_at_depth : {R E X F : Type 0} (view : X → Item R E) (given : Given R E) (depth : Option ℕ) (path : List ℕ) (answer : Result (Unit {0}) F) (state state' : R) (list left kept : List X)
    → AtDepth (list_depth depth) (map view list)
    → OnOk answer (IsProcessed given depth path state (map view list) state' (map view left)) → Keeps view (list_depth depth) left kept
    → OnOk answer (IsProcessed given depth path state (map view list) state' (map view kept))
made_at_depth view given depth path (Ok done) state state' list left kept deep made keeps =
    rw (keeps.all (depth_of_made {F = Unit {0}} given depth path (Ok done) state state' (map view list) (map view left) made deep)) made
made_at_depth view given depth path (Err failed) state state' list left kept deep made keeps = tt

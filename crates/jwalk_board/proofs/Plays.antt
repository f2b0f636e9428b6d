-- The steps of a rehearsal, from what the code of a step leaves.
use Rattle.std.proofs.Common.{◌≡◌, ◌≢◌, ℕ, zero, suc, ◌+◌, ◌<◌, ◌⊎◌, true, false, List, [], ◌∷◌, ◌++◌, length, map, set, replicate, refl, sym, ap, ◌∙◌, arith, subst, get_or, Option, Some, None, is_some}
use Rattle.std.proofs.lemmas.Bool.{false≢true}
use Rattle.std.proofs.lemmas.List.{map-set, map-append, length-map}
use Rattle.std.proofs.lemmas.Option.{slice_get-map}
use Rattle.std.specs.List.{slice_get}
use Rattle.std.specs.List.Sorted.{IsPermutation}
use Rattle.std.specs.Option.{option_map}
use Rattle.jwalk_order.specs.Ordered.{address_of}
use Rattle.jwalk_order.specs.declared.ordered.Ordered.{Ordered}
use Rattle.jwalk_board.specs.Board.{Board, IsNew, Takes, Finishes, HandsOut}
use Rattle.jwalk_order.specs.Addressed.{Addressed, addressed, addresses_of, numbered}
use Rattle.jwalk_board.specs.Plan.{PlanTree, Falls, node, read, specs_in_preorder}
use Rattle.jwalk_board.specs.Refusal.{RefusesTake, RefusesHandOut}
use Rattle.jwalk_board.specs.Seen.{seen, seen_item, seen_board}
use Rattle.jwalk_order.specs.Addresses.{times}
use Rattle.jwalk_order.specs.Frontier.{next_address, roots as root_addresses}
use Rattle.jwalk_order.specs.IndexPath.{is_before}
use Rattle.std.proofs.lemmas.List.Elements.{All-map}
use Rattle.std.proofs.lemmas.List.Sorted.{IsPermutation-map}
use Rattle.jwalk_board.specs.Rehearsal.{Follows}
use Rattle.jwalk_board.specs.Run.{Run, take_by, finish_by, hand_out_if_finished}
use Rattle.jwalk_board.specs.declared.board.refusal.TakeRefusal.{TakeRefusal}
use Rattle.jwalk_board.specs.declared.board.refusal.TakeRefusal.TheVariants as taking
use Rattle.jwalk_board.specs.declared.board.refusal.HandOutRefusal.{HandOutRefusal}
use Rattle.jwalk_board.specs.declared.board.refusal.HandOutRefusal.TheVariants as handing_out
use Rattle.jwalk_board.proofs.Follow.{skips_take, follows_take, follows_finish, skips_done, skips_not_ready, follows_hand_out}

module _ {X : Type 0} where
  get_at : (xs : List X) (k : ℕ) (d : X) → k < length xs → slice_get xs k ≡ Some (get_or xs k d)
  get_at [] k d less = absurd (omega arith)
  get_at (x ∷ xs) zero d less = refl
  get_at (x ∷ xs) (suc k) d less = get_at xs k d (omega arith)

  pub get_read : (xs : List X) (k : ℕ) (x : X) → k < length xs → x ≡ get_or xs k x → slice_get xs k ≡ Some x
  get_read xs k x less e = get_at xs k x less ∙ ap Some (sym e)

pub map_none : {X Y : Type 0} (f : X → Y) (n : ℕ) → map (option_map f) (replicate n None) ≡ replicate n None
map_none f zero = refl
map_none f (suc n) = ap (λ z. None ∷ z) (map_none f n)

pub set_same : {X : Type 0} (xs : List X) (k : ℕ) (x : X) → slice_get xs k ≡ Some x → set xs k x ≡ xs
set_same [] k x e = refl
set_same (y ∷ ys) zero x e = let d : y ≡ x = cc in ap (λ z. z ∷ ys) (sym d)
set_same (y ∷ ys) (suc k) x e = ap (λ z. y ∷ z) (set_same ys k x e)

-- What an option holds, if it holds something.
pub some_is : {X : Type 0} (h : Option X) → is_some h ≡ true → (x : X) × (h ≡ Some x)
some_is None e = absurd (false≢true e)
some_is (Some x) e = (x, refl)

pub none_is : {X : Type 0} (h : Option X) → is_some h ≡ false → h ≡ None
none_is None e = refl
none_is (Some x) e = absurd (false≢true (sym e))

addresses_of-seen : {V W : Type 0} (view : V → W) (xs : List (Addressed V)) → addresses_of (map (seen view) xs) ≡ addresses_of xs
addresses_of-seen view [] = refl
addresses_of-seen view (x ∷ xs) = ap (λ z. x.at ∷ z) (addresses_of-seen view xs)

numbered-seen : {V W : Type 0} (view : V → W) (a : List ℕ) (i : ℕ) (xs : List V) → map (seen view) (numbered a i xs) ≡ numbered a i (map view xs)
numbered-seen view a i [] = refl
numbered-seen view a i (x ∷ xs) = ap (λ z. record { at = a ++ i ∷ []; value = view x; child_count = 0 } ∷ z) (numbered-seen view a (i + 1) xs)

module _ {S R : Type 0} where
  -- a stage whose parts are these
  pub stage_as : (t : PlanTree S R) (roots : List S) (r : Run) (h k : List (Option (Addressed S))) (o p : List (Addressed R)) (q u : List (List ℕ)) (b c : Board S R) → h ≡ k → o ≡ p → q ≡ u → b ≡ c
      → Follows t roots r (record { hands = k; made = record { handed_out = p; taken = u; board = c } }) → Follows t roots r (record { hands = h; made = record { handed_out = o; taken = q; board = b } })
  stage_as t roots r h k o p q u b c eh eo eq eb f =
      subst (Follows t roots r) (λ i. record { hands = sym eh i; made = record { handed_out = sym eo i; taken = sym eq i; board = sym eb i } }) f

module _ {T Q S R : Type 0} (v : T → S) (w : Q → R) where
  pub seen_new : (specs : List T) (b : Board T Q) → IsNew specs b → IsNew (map v specs) (seen_board v w b)
  seen_new specs b new = record {
    queued = subst (λ z. IsPermutation z (map (seen v) b.queued)) (numbered-seen v [] 0 specs) (IsPermutation-map (seen v) (numbered [] 0 specs) b.queued new.queued);
    in_hand = new.in_hand;
    ready = ap (map (seen w)) new.ready;
    frontier = new.frontier ∙ ap root_addresses (sym (length-map specs v));
    running = new.running;
  }

  pub take_refused : (t : PlanTree S R) → Falls t → (roots : List S) (r : Run) (hands : List (Option (Addressed S))) (handed : List (Addressed R)) (taken : List (List ℕ)) (b : Board T Q) (k : ℕ) (cause : TakeRefusal)
      → Follows t roots r (record { hands = hands; made = record { handed_out = handed; taken = taken; board = seen_board v w b } }) → slice_get hands k ≡ Some None
      → RefusesTake b cause → cause ≢ taking.Memory → take_by (addresses_of (specs_in_preorder t roots)) r k (slice_get r.hands k) ≡ r
  take_refused t falls roots r hands handed taken b k taking.Stopped f free refused other = absurd (false≢true (sym f.running ∙ refused))
  take_refused t falls roots r hands handed taken b k taking.Empty f free refused other = skips_take t falls roots r _ f k free (ap (map (seen v)) refused.1)
  take_refused t falls roots r hands handed taken b k taking.Done f free refused other = skips_take t falls roots r _ f k free (ap (map (seen v)) refused.1)
  take_refused t falls roots r hands handed taken b k taking.Memory f free refused other = absurd (other refl)

  pub hand_out_refused : (t : PlanTree S R) → Falls t → (roots : List S) (r : Run) (hands : List (Option (Addressed S))) (handed : List (Addressed R)) (taken : List (List ℕ)) (b : Board T Q) (cause : HandOutRefusal)
      → Follows t roots r (record { hands = hands; made = record { handed_out = handed; taken = taken; board = seen_board v w b } })
      → RefusesHandOut b cause → cause ≢ handing_out.Memory → hand_out_if_finished r (slice_get (addresses_of (specs_in_preorder t roots)) r.handed_out) ≡ r
  hand_out_refused t falls roots r hands handed taken b handing_out.Stopped f refused other = absurd (false≢true (sym f.running ∙ refused))
  hand_out_refused t falls roots r hands handed taken b handing_out.Done f refused other = skips_done t falls roots r _ f refused.1
  hand_out_refused t falls roots r hands handed taken b handing_out.NotReady f refused other =
      skips_not_ready t falls roots r _ f refused.1
      (subst (λ z. (0 < times (next_address b.frontier) z) ⊎ (0 < times (next_address b.frontier) b.in_hand)) (sym (addresses_of-seen v b.queued)) refused.2)
  hand_out_refused t falls roots r hands handed taken b handing_out.Memory f refused other = absurd (other refl)

  module _ {A : Type 0} (t : PlanTree S R) (falls : Falls t) (roots : List S) (r : Run) where
    pub played_take : (hands : List (Option (Ordered T A))) (handed : List (Addressed R)) (taken : List (List ℕ)) (b c : Board T Q) (k : ℕ) (item : Ordered T A) (path : List ℕ)
        → Follows t roots r (record { hands = map (option_map (seen_item v)) hands; made = record { handed_out = handed; taken = taken; board = seen_board v w b } })
        → slice_get hands k ≡ Some None → Takes item b c → path ≡ address_of item
        → Follows t roots (take_by (addresses_of (specs_in_preorder t roots)) r k (slice_get r.hands k))
        (record { hands = map (option_map (seen_item v)) (set hands k (Some item)); made = record { handed_out = handed; taken = taken ++ path ∷ []; board = seen_board v w c } })
    played_take hands handed taken b c k item path f free takes path-is =
        stage_as t roots (take_by (addresses_of (specs_in_preorder t roots)) r k (slice_get r.hands k)) _ _ _ _ _ _ _ _
        (map-set (option_map (seen_item v)) hands k (Some item)) refl (ap (λ z. taken ++ z ∷ []) path-is) (ap (seen_board v w) takes.others)
        (follows_take t falls roots r _ f k (slice_get-map (option_map (seen_item v)) hands k ∙ ap (option_map (option_map (seen_item v))) free) (seen_item v item) (map (seen v) c.queued) c.in_hand
        (IsPermutation-map (seen v) b.queued (addressed item ∷ c.queued) takes.queued)
        (All-map (λ y. is_before y.at (address_of item) ≡ false) (seen v) b.queued takes.least) takes.in_hand)

    pub played_finish : (hands : List (Option (Ordered T A))) (handed : List (Addressed R)) (taken : List (List ℕ)) (b c : Board T Q) (k : ℕ) (item : Ordered T A) (reading : Q) (children : List T)
        → Follows t roots r (record { hands = map (option_map (seen_item v)) hands; made = record { handed_out = handed; taken = taken; board = seen_board v w b } })
        → slice_get hands k ≡ Some (Some item) → w reading ≡ t.reading (v item.value) → map v children ≡ t.children (v item.value) → Finishes (address_of item) reading children b c
        → Follows t roots (finish_by r k (slice_get r.hands k))
        (record { hands = map (option_map (seen_item v)) (set hands k None); made = record { handed_out = handed; taken = taken; board = seen_board v w c } })
    played_finish hands handed taken b c k item reading children f holds reading-is children-is p =
        let a : List ℕ = address_of item in
        let x : Addressed Q = record { at = a; value = reading; child_count = length children } in
        let count : length children ≡ length (t.children (v item.value)) = sym (length-map children v) ∙ ap length children-is in
        let x-is : seen w x ≡ read t (node t a (v item.value)) = λ i. record { at = a; value = reading-is i; child_count = count i } in
        let ready = subst (λ z. IsPermutation (z ∷ map (seen w) b.ready) (map (seen w) c.ready)) x-is (IsPermutation-map (seen w) (x ∷ b.ready) c.ready p.ready) in
        let split : map (seen v) (numbered a 0 children ++ b.queued) ≡ numbered a 0 (t.children (v item.value)) ++ map (seen v) b.queued =
        map-append (seen v) (numbered a 0 children) b.queued ∙ ap (λ z. z ++ map (seen v) b.queued) (numbered-seen v a 0 children ∙ ap (numbered a 0) children-is) in
        let queued = subst (λ z. IsPermutation z (map (seen v) c.queued)) split (IsPermutation-map (seen v) (numbered a 0 children ++ b.queued) c.queued p.queued) in
        stage_as t roots (finish_by r k (slice_get r.hands k)) _ _ _ _ _ _ _ _
        (map-set (option_map (seen_item v)) hands k None) refl refl (ap (seen_board v w) p.others)
        (follows_finish t falls roots r _ f k (seen_item v item) (slice_get-map (option_map (seen_item v)) hands k ∙ ap (option_map (option_map (seen_item v))) holds)
        (map (seen v) c.queued) c.in_hand (map (seen w) c.ready) p.in_hand ready queued)

    pub played_hand_out : (hands : List (Option (Addressed S))) (handed : List (Addressed R)) (taken : List (List ℕ)) (b c : Board T Q) (item : Ordered Q A)
        → Follows t roots r (record { hands = hands; made = record { handed_out = handed; taken = taken; board = seen_board v w b } }) → HandsOut item b c
        → Follows t roots (hand_out_if_finished r (slice_get (addresses_of (specs_in_preorder t roots)) r.handed_out))
        (record { hands = hands; made = record { handed_out = handed ++ seen_item w item ∷ []; taken = taken; board = seen_board v w c } })
    played_hand_out hands handed taken b c item f h =
        stage_as t roots (hand_out_if_finished r (slice_get (addresses_of (specs_in_preorder t roots)) r.handed_out)) _ _ _ _ _ _ _ _ refl refl refl (ap (seen_board v w) h.others)
        (follows_hand_out t falls roots r _ f h.some (seen_item w item) (map (seen w) c.ready) h.next (IsPermutation-map (seen w) b.ready (addressed item ∷ c.ready) h.ready))

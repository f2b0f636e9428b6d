-- What an iterator over the answers on one device yields.
use Rattle.std.proofs.Common.{◌≡◌, ◌∙◌, ◌≤◌, Bool, true, false, not, cond, List, [], ◌∷◌, ◌++◌, append-nil, append_assoc, map, filter, Option, None, Some, Result, Ok, Err, is_ok, refl, sym, ap, subst, arith}
use Rattle.std.specs.Iterator.{Count, Drains, EndsFrom, MakesProgress, Yields, size}
use Rattle.std.specs.List.{list_all}
use Rattle.std.proofs.lemmas.List.{map-append}
use Rattle.jwalk.specs.jwalk_model.declared.metadata.Identity.{Identity}
use Rattle.jwalk.specs.jwalk_model.Counted.{item_by}
use Rattle.jwalk.specs.jwalk_model.Entry.{Entry, Item}
use Rattle.jwalk.specs.jwalk_model.Metadata.{is_elsewhere}
use Rattle.jwalk.specs.jwalk_job.declared.dir_entry.DirEntry.{DirEntry}
use Rattle.jwalk.specs.jwalk_job.declared.error.Error.{Error}
use Rattle.jwalk.specs.jwalk_job.Entry.{item}
use Rattle.tally_run.specs.declared.one_device.OneDevice.{OneDevice}
use Rattle.tally_run.specs.OneDevice.{identity_kept, on_devices, root_before, root_of, root_then, source_of, stays, staying, MayGoOn, Stays, YieldsStaying}

module _ {R E : Type 0} where
  -- one more answer, by whether it stays
  one_more : (root : Option (Option Identity)) (x : Item R E) (l : List (Item R E)) → staying root (x ∷ l) ≡ cond (stays (root_then root x) x) (x ∷ staying (Some (root_then root x)) l) (staying (Some (root_then root x)) l)
  one_more None x l = refl
  one_more (Some root) x l = refl

  pub one_stays : (root root' : Option (Option Identity)) (x : Item R E) (l : List (Item R E)) → root' ≡ Some (root_then root x) → stays (root_then root x) x ≡ true → staying root (x ∷ l) ≡ x ∷ staying root' l
  one_stays root root' x l is stay =
      one_more root x l
      ∙ ap (λ (b : Bool). cond b (x ∷ staying (Some (root_then root x)) l) (staying (Some (root_then root x)) l)) stay
      ∙ ap (λ (r : Option (Option Identity)). x ∷ staying r l) (sym is)

  pub one_drops : (root root' : Option (Option Identity)) (x : Item R E) (l : List (Item R E)) → root' ≡ Some (root_then root x) → stays (root_then root x) x ≡ false → staying root (x ∷ l) ≡ staying root' l
  one_drops root root' x l is drops =
      one_more root x l
      ∙ ap (λ (b : Bool). cond b (x ∷ staying (Some (root_then root x)) l) (staying (Some (root_then root x)) l)) drops
      ∙ ap (λ (r : Option (Option Identity)). staying r l) (sym is)

  -- nothing stays of nothing
  pub none_stays : (root : Option (Option Identity)) → staying {R = R} {E = E} root [] ≡ []
  none_stays None = refl
  none_stays (Some root) = refl

more_calls : {I X : Type 0} (next : I → Option X → I → Type 0) (xs : List X) (x : X) (s m e : I) → Yields next s xs m → next m (Some x) e → Yields next s (xs ++ x ∷ []) e
more_calls next [] x s m e same step = (e, subst (λ i. next i (Some x) e) (sym same) step, refl)
more_calls next (y ∷ xs) x s m e (j, first, rest) step = (j, first, more_calls next xs x j m e rest step)

all_calls : {I X : Type 0} (next : I → Option X → I → Type 0) (xs ys : List X) (s m e : I) → Yields next s xs m → Yields next m ys e → Yields next s (xs ++ ys) e
all_calls next [] ys s m e same more = subst (λ i. Yields next i ys e) (sym same) more
all_calls next (x ∷ xs) ys s m e (j, step, rest) more = (j, step, all_calls next xs ys j m e rest more)

module _ {C A I R E : Type 0} where
  -- answers that were taken one after another
  stays_on : (old mid new : OneDevice I) (xs ys : List (Result (DirEntry C A R E) (Error A))) (us vs : List (Item R E)) → YieldsStaying old xs us mid → YieldsStaying mid ys vs new → YieldsStaying old (xs ++ ys) (us ++ vs) new
  stays_on old mid new xs ys us vs one two = λ later.
      ap (staying (root_of old)) (ap (λ (l : List (Item R E)). l ++ later) (map-append item xs ys) ∙ append_assoc (map item xs) (map item ys) later)
      ∙ one (map item ys ++ later)
      ∙ ap (λ (l : List (Item R E)). us ++ l) (two later)
      ∙ sym (append_assoc us vs (staying (root_of new) later))

module _ {C A I R E : Type 0} (next : I → Option (Result (DirEntry C A R E) (Error A)) → I → Type 0) (can : I → Type 0) (left : I → Count) where
  -- Calls from the start dropped all that they took.
  pub record Drops (start now : OneDevice I) : Type 0 where
    pub dropped : List (Result (DirEntry C A R E) (Error A))
    pub calls : Yields next (source_of start) dropped (source_of now)
    pub none : YieldsStaying {R = R} {E = E} start dropped [] now
    pub may : MayGoOn can (EndsFrom left) now
    pub fewer : size (left (source_of now)) ≤ size (left (source_of start))

  pub drops_none : (s : OneDevice I) → MayGoOn can (EndsFrom left) s → Drops s s
  drops_none s may = record { dropped = []; calls = refl; none = λ later. refl; may = may; fewer = omega arith }

  module _ (start now new : OneDevice I) (mid : I) (x : Result (DirEntry C A R E) (Error A)) (before : Drops start now) (step : next (source_of now) (Some x) mid)
      (goes : MakesProgress can left (source_of now) (Some x) mid) (begun : new ≡ record { answers = mid; root = Some (root_then (root_of now) (item x)) }) where
    after : source_of new ≡ mid
    after = ap source_of begun

    -- one answer more that is dropped
    pub drops_one : stays (root_then (root_of now) (item x)) (item x) ≡ false → Drops start new
    drops_one drops =
        let on = goes.on before.may.ends in
        record {
          dropped = before.dropped ++ x ∷ [];
          calls = more_calls next before.dropped x (source_of start) (source_of now) (source_of new) before.calls (subst (next (source_of now) (Some x)) (sym after) step);
          none = stays_on start now new before.dropped (x ∷ []) [] [] before.none (λ later. one_drops (root_of now) (root_of new) (item x) later (ap root_of begun) drops);
          may = subst (MayGoOn can (EndsFrom left)) (sym begun) (record { may = on.0; ends = on.1 });
          fewer = subst (λ i. size (left i) ≤ size (left (source_of start))) (sym after) (omega (arith, on.2, before.fewer));
        }

    -- one that stays
    pub stays_one : stays (root_then (root_of now) (item x)) (item x) ≡ true → Stays next start (Some x) new
    stays_one stay = record {
      dropped = before.dropped;
      calls = (source_of now, before.calls, subst (next (source_of now) (Some x)) (sym after) step);
      stays = stays_on start now new before.dropped (x ∷ []) [] (item x ∷ []) before.none (λ later. one_stays (root_of now) (root_of new) (item x) later (ap root_of begun) stay);
    }

module _ {C A I R E : Type 0} (next : I → Option (Result (DirEntry C A R E) (Error A)) → I → Type 0) where
  -- the answers of all calls, and what stays of them
  yields_staying : (ys : List (Result (DirEntry C A R E) (Error A))) (start end : OneDevice I) → Yields (Stays next) start ys end
      → (xs : List (Result (DirEntry C A R E) (Error A))) × Yields next (source_of start) xs (source_of end) × YieldsStaying start xs (map item ys) end
  yields_staying [] start end same = ([], ap source_of same, (λ later. ap (λ (s : OneDevice I). staying (root_of s) later) same))
  yields_staying (y ∷ ys) start end (mid, step, rest) =
      let more = yields_staying ys mid end rest in (
        (step.dropped ++ y ∷ []) ++ more.0,
        all_calls next (step.dropped ++ y ∷ []) more.0 (source_of start) (source_of mid) (source_of end)
            (more_calls next step.dropped y (source_of start) step.calls.0 (source_of mid) step.calls.1 step.calls.2) more.1,
        stays_on start mid end (step.dropped ++ y ∷ []) more.0 (item y ∷ []) (map item ys) step.stays more.2,
      )

  -- the same up to the end
  pub drains_staying : (ys : List (Result (DirEntry C A R E) (Error A))) (start : OneDevice I) → Drains (Stays next) start ys
      → (xs : List (Result (DirEntry C A R E) (Error A))) × Drains next (source_of start) xs × (staying (root_of start) (map item xs) ≡ map item ys)
  drains_staying ys start (end, (mid, calls, last)) =
      let all = yields_staying ys start mid calls in
      let xs = all.0 in
      let gone : staying (root_of mid) (map item last.dropped) ≡ []
      = ap (staying (root_of mid)) (sym (append-nil (map item (last.dropped ++ [])) ∙ ap (map item) (append-nil last.dropped))) ∙ last.stays [] ∙ none_stays (root_of end) in (
        xs ++ last.dropped,
        (source_of end, (last.calls.0, all_calls next xs last.dropped (source_of start) (source_of mid) last.calls.0 all.1 last.calls.1, last.calls.2)),
        ap (staying (root_of start)) (map-append item xs last.dropped)
            ∙ all.2 (map item last.dropped)
            ∙ ap (λ (l : List (Item R E)). map item ys ++ l) gone
            ∙ append-nil (map item ys),
      )

-- an error stays
error_stays : (root : Option Identity) → not (is_elsewhere root None) ≡ true
error_stays None = refl
error_stays (Some i) = refl

module _ {R E : Type 0} where
  all_stay : (l : List (Item R E)) → filter (stays {R = R} {E = E} None) l ≡ l
  all_stay [] = refl
  all_stay (x ∷ l) = ap (λ (rest : List (Item R E)). x ∷ rest) (all_stay l)

  -- what stays from the beginning on
  pub stays_first : (one : Bool) (l : List (Item R E)) → staying (root_before one) l ≡ on_devices one l
  stays_first true l = refl
  stays_first false l = all_stay l

  ok_or_not : (b : Bool) (e : Entry R E) (l : List (Item R E)) → list_all is_ok (cond b (Ok e ∷ l) l) ≡ list_all is_ok l
  ok_or_not true e l = refl
  ok_or_not false e l = refl

  stay_ok : (root : Option Identity) (l : List (Item R E)) → list_all is_ok (filter (stays root) l) ≡ true → list_all is_ok l ≡ true
  stay_ok root [] all = refl
  stay_ok root (Ok e ∷ l) all = stay_ok root l (sym (ok_or_not (stays root (Ok e)) e (filter (stays root) l)) ∙ all)
  stay_ok root (Err f ∷ l) all =
      absurd (let none : false ≡ true = sym (ap (λ (b : Bool). list_all is_ok (cond b (Err f ∷ filter (stays root) l) (filter (stays root) l))) (error_stays root)) ∙ all in cc none)

  -- where what stays has no errors, nothing else has
  pub devices_ok : (one : Bool) (l : List (Item R E)) → list_all is_ok (on_devices one l) ≡ true → list_all is_ok l ≡ true
  devices_ok false l all = all
  devices_ok true [] all = refl
  devices_ok true (x ∷ l) all = stay_ok (identity_kept x) (x ∷ l) all

module _ {R E V W : Type 0} (view : R → V) (mark : E → W) where
  same_identity : (x : Item R E) → identity_kept (item_by view mark x) ≡ identity_kept x
  same_identity (Ok e) = refl
  same_identity (Err f) = refl

  mapped_or_not : (b : Bool) (x : Item R E) (l : List (Item R E)) → map (item_by view mark) (cond b (x ∷ l) l) ≡ cond b (item_by view mark x ∷ map (item_by view mark) l) (map (item_by view mark) l)
  mapped_or_not true x l = refl
  mapped_or_not false x l = refl

  stay_same : (root : Option Identity) (l : List (Item R E)) → filter (stays root) (map (item_by view mark) l) ≡ map (item_by view mark) (filter (stays root) l)
  stay_same root [] = refl
  stay_same root (x ∷ l) =
      ap (λ (own : Option Identity). cond (not (is_elsewhere root own)) (item_by view mark x ∷ filter (stays root) (map (item_by view mark) l)) (filter (stays root) (map (item_by view mark) l))) (same_identity x)
      ∙ ap (λ (rest : List (Item V W)). cond (stays root x) (item_by view mark x ∷ rest) rest) (stay_same root l)
      ∙ sym (mapped_or_not (stays root x) x (filter (stays root) l))

  -- what stays doesn't go by states
  pub devices_same : (one : Bool) (l : List (Item R E)) → on_devices one (map (item_by view mark) l) ≡ map (item_by view mark) (on_devices one l)
  devices_same false l = refl
  devices_same true [] = refl
  devices_same true (x ∷ l) =
      ap (λ (own : Option Identity). filter (stays own) (map (item_by view mark) (x ∷ l))) (same_identity x) ∙ stay_same (identity_kept x) (x ∷ l)

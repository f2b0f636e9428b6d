-- Where a board's readings come from stays the same at each step.
use Rattle.std.proofs.Common.{◌≡◌, ◌∙◌, ℕ, suc, ◌+◌, List, [], ◌∷◌, ◌++◌, map, length, All, Option, Some, None, option_map, slice_get, Result, Ok, Err, IfOk, MatchResult, true, refl, sym, ap, subst, arith}
use Rattle.std.specs.declared.alloc.AllocError.{AllocError}
use Rattle.std.proofs.lemmas.List.Elements.{All-nil, All-cons, All-head, All-tail, All-append}
use Rattle.std.proofs.lemmas.List.Sorted.{All-permutation}
use Rattle.std.proofs.lemmas.Option.{none-some, slice_get-map}
use Rattle.jwalk_order.specs.Ordered.{address_of}
use Rattle.jwalk_order.specs.declared.ordered.Ordered.{Ordered}
use Rattle.jwalk_order.specs.Addressed.{Addressed, addressed, numbered}
use Rattle.jwalk_board.specs.Board.{Board, IsNew, Takes, HandsOut, Finishes}
use Rattle.jwalk_board.specs.declared.board.plan.Plan as Plan
use Rattle.tree_crew.specs.Message.{Message}
use Rattle.tree_crew.specs.Origin.{Origin, reached, at_address, CountAlike, IsAt, IsReadingWith, IsMessageOf, IsBoardOf, IsMadeAt}

module _ {X : Type 0} (below : X → List X) where
  one_further : (x : Option X) (a : List ℕ) (i : ℕ) (y : X) → reached below x a ≡ Some y → reached below x (a ++ i ∷ []) ≡ slice_get (below y) i
  one_further x [] i y is = ap (λ o. reached below o (i ∷ [])) is
  one_further None (j ∷ a) i y is = absurd (none-some y is)
  one_further (Some x) (j ∷ a) i y is = one_further (slice_get (below x) j) a i y is

  -- at a child of an address is the child of what is at that address
  pub at_child : (roots : List X) (a : List ℕ) (i : ℕ) (y : X) → at_address below roots a ≡ Some y → at_address below roots (a ++ i ∷ []) ≡ slice_get (below y) i
  at_child roots [] i y is = absurd (none-some y is)
  at_child roots (j ∷ a) i y is = one_further (slice_get roots j) a i y is

-- what holds of each value at its child's address holds of all that are numbered
numbered_hold : {T : Type 0} (P : List ℕ → T → Type 0) (a : List ℕ) (from : ℕ) (xs : List T) → ((i : ℕ) (x : T) → slice_get xs i ≡ Some x → P (a ++ (from + i) ∷ []) x) → All (λ (q : Addressed T). P q.at q.value) (numbered a from xs)
numbered_hold P a from [] each = All-nil _
numbered_hold {T} P a from (x ∷ xs) each =
    let Q : Addressed T → Type 0 = λ q. P q.at q.value in
    All-cons Q (record { at = a ++ from ∷ []; value = x; child_count = 0 }) (numbered a (from + 1) xs)
    (let here : from + 0 ≡ from = omega arith in subst (λ k. P (a ++ k ∷ []) x) here (each 0 x refl))
    (numbered_hold P a (from + 1) xs (λ i y is. let there : from + suc i ≡ (from + 1) + i = omega arith in subst (λ k. P (a ++ k ∷ []) y) there (each (suc i) y is)))

numbered_first : {T : Type 0} (P : List ℕ → T → Type 0) (a : List ℕ) (xs : List T) → ((i : ℕ) (x : T) → slice_get xs i ≡ Some x → P (a ++ i ∷ []) x) → All (λ (q : Addressed T). P q.at q.value) (numbered a 0 xs)
numbered_first P a xs each = numbered_hold P a 0 xs (λ i x is. let here : i ≡ 0 + i = omega arith in subst (λ k. P (a ++ k ∷ []) x) here (each i x is))

-- Over all that a plan is fixed over, a reading and the children that come with it are those of its tree.
abbrev pub AreAsGiven : {J A T U : Type 0} → Plan.Ghosts J A T U → Type 0
AreAsGiven {J} {A} {T} {U} p = (plan : J) (s : T) (r : U) (cs : List T) → p.IsReading plan s r cs → (given : p.Given) → p.IsFixed plan given → (p.reading_value given r ≡ (p.tree plan given).reading (p.spec_value given s)) × (map (p.spec_value given) cs ≡ (p.tree plan given).children (p.spec_value given s))

-- Over all that a plan is fixed over, the children that come with a reading are those of its tree.
abbrev pub ChildrenAreGiven : {J A T U : Type 0} → Plan.Ghosts J A T U → Type 0
ChildrenAreGiven {J} {A} {T} {U} p = (plan : J) (s : T) (r : U) (cs : List T) → p.IsReading plan s r cs → (given : p.Given) → p.IsFixed plan given → map (p.spec_value given) cs ≡ (p.tree plan given).children (p.spec_value given s)

-- so by the law of a plan
pub children_are : {J A T U : Type 0} (p : Plan.Ghosts J A T U) → AreAsGiven p → ChildrenAreGiven p
children_are p law plan s r cs is given fixed = (law plan s r cs is given fixed).1

module _ {J A T U : Type 0} (p : Plan.Ghosts J A T U) (origin : Origin T J) where
  abbrev Queued : Addressed T → Type 0
  Queued x = IsAt p origin x.at x.value

  abbrev Ready : Addressed (Message T U J) → Type 0
  Ready = IsMessageOf p origin

  -- each child is at its address
  pub child_at : ChildrenAreGiven p → (a : List ℕ) (s : T) (r : U) (cs : List T) (i : ℕ) (c : T) → IsAt p origin a s → p.IsReading origin.plan s r cs → slice_get cs i ≡ Some c → IsAt p origin (a ++ i ∷ []) c
  child_at law a s r cs i c there made is given fixed =
      at_child (p.tree origin.plan given).children (map (p.spec_value given) origin.roots) a i (p.spec_value given s) (there given fixed)
      ∙ ap (λ l. slice_get l i) (sym (law origin.plan s r cs made given fixed))
      ∙ slice_get-map (p.spec_value given) cs i
      ∙ ap (option_map (p.spec_value given)) is

  -- A new board is the walk's own, if its roots count as the walk's.
  pub new_of : (specs : List T) (b : Board T (Message T U J)) → CountAlike p origin.plan specs origin.roots → IsNew specs b → IsBoardOf p origin b
  new_of specs b alike new = record {
    queued = All-permutation Queued (numbered [] 0 specs) b.queued new.queued (numbered_first (IsAt p origin) [] specs (λ i x is given fixed.
        ap (λ l. slice_get l i) (sym (alike given fixed))
        ∙ slice_get-map (p.spec_value given) specs i
        ∙ ap (option_map (p.spec_value given)) is));
    ready = subst (All Ready) (sym new.ready) (All-nil Ready);
  }

  module _ (old new : Board T (Message T U J)) (of : IsBoardOf p origin old) where
    -- It stays so where something is taken,
    pub taken_of : (item : Ordered T A) → Takes item old new → IsAt p origin (address_of item) item.value × IsBoardOf p origin new
    taken_of item takes =
        let all = All-permutation Queued old.queued (addressed item ∷ new.queued) takes.queued of.queued in
        (All-head Queued (addressed item) new.queued all, record { queued = All-tail Queued (addressed item) new.queued all; ready = subst (All Ready) (sym (ap (λ b. b.ready) takes.others)) of.ready })

    -- where something is handed out,
    pub handed_of : (item : Ordered (Message T U J) A) → HandsOut item old new → IsMessageOf p origin (addressed item) × IsBoardOf p origin new
    handed_of item out =
        let all = All-permutation Ready old.ready (addressed item ∷ new.ready) out.ready of.ready in
        (All-head Ready (addressed item) new.ready all, record { queued = subst (All Queued) (sym (ap (λ b. b.queued) out.others)) of.queued; ready = All-tail Ready (addressed item) new.ready all })

    -- where the board is stopped,
    pub stopped_of : new ≡ record old { stopped = true } → IsBoardOf p origin new
    stopped_of is = record {
      queued = subst (All Queued) (sym (ap (λ b. b.queued) is)) of.queued;
      ready = subst (All Ready) (sym (ap (λ b. b.ready) is)) of.ready;
    }

    -- and where what was made is finished.
    children_hold : ChildrenAreGiven p → (a : List ℕ) (s : T) (children : List T) (r : Result U AllocError) → IsAt p origin a s → MatchResult r (λ o. p.IsReading origin.plan s o children) (λ _. children ≡ []) → All Queued (numbered a 0 children)
    children_hold law a s children (Ok o) there below = numbered_first (IsAt p origin) a children (λ i x is. child_at law a s o children i x there below is)
    children_hold law a s children (Err e) there below = subst (λ l. All Queued (numbered a 0 l)) (sym below) (All-nil Queued)

    counts : (s : T) (children : List T) (r : Result U AllocError) → MatchResult r (λ o. p.IsReading origin.plan s o children) (λ _. children ≡ []) → IfOk r (IsReadingWith p origin.plan s (length children))
    counts s children (Ok o) below = record { children = children; made = below; count_is = refl }
    counts s children (Err e) below = tt

    pub finished_of : ChildrenAreGiven p → (a : List ℕ) (message : Message T U J) (children : List T) → IsMadeAt p origin a message children → Finishes a message children old new → IsBoardOf p origin new
    finished_of law a message children made done = record {
      queued = All-permutation Queued (numbered a 0 children ++ old.queued) new.queued done.queued (All-append Queued (numbered a 0 children) old.queued (children_hold law a message.of children message.outcome made.at made.reading) of.queued);
      ready =
          let item : Addressed (Message T U J) = record { at = a; value = message; child_count = length children } in
          All-permutation Ready (item ∷ old.ready) new.ready done.ready (All-cons Ready item old.ready (record { plan = made.plan; at = made.at; reading = counts message.of children message.outcome made.reading }) of.ready);
    }

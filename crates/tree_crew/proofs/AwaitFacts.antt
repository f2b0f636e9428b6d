-- What a session still has to give, by the addresses that it awaits.
use Rattle.std.proofs.Common.{◌≡◌, ◌∙◌, ℕ, suc, ◌+◌, List, [], ◌∷◌, ◌++◌, map, length, Some, slice_get, option_to_list, Ok, refl, sym, ap, ap₂, subst, arith}
use Rattle.std.specs.Prelude.{flat_map}
use Rattle.std.proofs.lemmas.Grind.{flat_map-append}
use Rattle.std.proofs.lemmas.List.{append-nil, length-map}
use Rattle.std.proofs.lemmas.Option.{none-some}
use Rattle.jwalk_order.specs.Frontier.{next_address, passed, children_from, roots as root_addresses}
use Rattle.jwalk_order.specs.declared.ordered.Ordered.{Ordered}
use Rattle.jwalk_board.specs.Plan.{PlanTree, Falls}
use Rattle.jwalk_board.specs.declared.board.plan.Plan as Plan
use Rattle.jwalk_board.proofs.PreorderValues.{below, below-first, one_more, readings-are}
use Rattle.tree_crew.specs.Message.{Message}
use Rattle.tree_crew.specs.Origin.{Origin, IsReadingWith, at_address}
use Rattle.tree_crew.specs.Shared.{IsReadingAt}
use Rattle.tree_crew.specs.Whole.{ArePreorder}
use Rattle.tree_crew.proofs.OriginFacts.{AreAsGiven, at_child}

module _ {S Q : Type 0} (t : PlanTree S Q) (roots : List S) where
  -- what is at these addresses
  abbrev pub left : List (List ℕ) → List S
  left = flat_map (λ a. option_to_list (at_address t.children roots a))

  numbered_left : (at : ℕ → List ℕ) (all : List S) → ((i : ℕ) → at_address t.children roots (at i) ≡ slice_get all i) → (ys : List S) (i : ℕ) → ((k : ℕ) → slice_get all (i + k) ≡ slice_get ys k)
      → (lists : ℕ → ℕ → List (List ℕ)) → ((j : ℕ) → lists j 0 ≡ []) → ((j n : ℕ) → lists j (suc n) ≡ at j ∷ lists (j + 1) n) → left (lists i (length ys)) ≡ ys
  numbered_left at all each [] i is lists none more = ap left (none i)
  numbered_left at all each (y ∷ ys) i is lists none more =
      let here : at_address t.children roots (at i) ≡ Some y = each i ∙ (let z : i + 0 ≡ i = omega arith in subst (λ k. slice_get all k ≡ Some y) z (is 0)) in
      ap left (more i (length ys))
      ∙ ap (λ o. option_to_list o ++ left (lists (i + 1) (length ys))) here
      ∙ ap (λ l. y ∷ l) (numbered_left at all each ys (i + 1) (λ k. (let z : i + suc k ≡ (i + 1) + k = omega arith in subst (λ m. slice_get all m ≡ slice_get ys k) z (is (suc k)))) lists none more)

  -- at the children of an address are its children
  children_left : (a : List ℕ) (s : S) → at_address t.children roots a ≡ Some s → left (children_from 0 a (length (t.children s))) ≡ t.children s
  children_left a s there = numbered_left (λ i. a ++ i ∷ []) (t.children s) (λ i. at_child t.children roots a i s there) (t.children s) 0 (λ k. (let z : 0 + k ≡ k = omega arith in ap (slice_get (t.children s)) z)) (λ j n. children_from j a n) (λ j. refl) (λ j n. refl)

  -- Its children take the place of one that is passed.
  pub left_passed : Falls t → (awaited : List (List ℕ)) (s : S) (count : ℕ) → at_address t.children roots (next_address awaited) ≡ Some s → count ≡ length (t.children s)
      → map t.reading (below t (left awaited)) ≡ t.reading s ∷ map t.reading (below t (left (passed awaited count)))
  left_passed falls [] s count there is = absurd (none-some s there)
  left_passed falls (a ∷ rest) s count there is =
      let now : left (passed (a ∷ rest) count) ≡ t.children s ++ left rest = ap (λ n. left (children_from 0 a n ++ rest)) is ∙ flat_map-append (λ b. option_to_list (at_address t.children roots b)) (children_from 0 a (length (t.children s))) rest ∙ ap (λ l. l ++ left rest) (children_left a s there) in
      ap (λ o. map t.reading (below t (option_to_list o ++ left rest))) there
      ∙ ap (map t.reading) (below-first t falls s (left rest))
      ∙ ap (λ l. t.reading s ∷ map t.reading (below t l)) (sym now)

  -- at the roots' addresses are the roots
  pub left_roots : left (root_addresses (length roots)) ≡ roots
  left_roots = numbered_left (λ i. i ∷ []) roots (λ i. refl) roots 0 (λ k. (let z : 0 + k ≡ k = omega arith in ap (slice_get roots) z)) (λ j n. children_from j [] n) (λ j. refl) (λ j n. refl)

module _ {J A T U : Type 0} (p : Plan.Ghosts J A T U) (origin : Origin T J) where
  -- what comes at these addresses and below them, over what the plan is fixed over
  abbrev pub to_come : p.Given → List (List ℕ) → List p.ReadingValue
  to_come given awaited = map (p.tree origin.plan given).reading (below (p.tree origin.plan given) (left (p.tree origin.plan given) (map (p.spec_value given) origin.roots) awaited))

  -- What was found, and what is to come at the awaited addresses, is what was to come in all.
  abbrev pub HasFound : List U → List (List ℕ) → Type 0
  HasFound found awaited = (given : p.Given) → p.IsFixed origin.plan given → map (p.reading_value given) found ++ to_come given awaited ≡ map (p.tree origin.plan given).reading (below (p.tree origin.plan given) (map (p.spec_value given) origin.roots))

  -- At first nothing was found, and the roots' addresses are awaited.
  pub nothing_found : (found : List U) (awaited : List (List ℕ)) → found ≡ [] → awaited ≡ root_addresses (length origin.roots) → HasFound found awaited
  nothing_found found awaited none begun given fixed =
      let t = p.tree origin.plan given in
      let roots = map (p.spec_value given) origin.roots in
      ap (λ l. map (p.reading_value given) l ++ to_come given awaited) none
      ∙ ap (λ l. map t.reading (below t l)) (ap (left t roots) (begun ∙ ap root_addresses (sym (length-map origin.roots (p.spec_value given)))) ∙ left_roots t roots)

  -- In the end nothing is awaited, and all was found.
  pub all_found : (found : List U) (awaited : List (List ℕ)) → awaited ≡ [] → HasFound found awaited → ArePreorder p origin.plan origin.roots found
  all_found found awaited none has given fixed =
      let t = p.tree origin.plan given in
      sym (append-nil (map (p.reading_value given) found))
      ∙ ap (λ l. map (p.reading_value given) found ++ to_come given l) (sym none)
      ∙ has given fixed
      ∙ sym (readings-are t (map (p.spec_value given) origin.roots))

  module _ (law : AreAsGiven p) (falls : (plan : J) (given : p.Given) → p.IsFixed plan given → Falls (p.tree plan given)) where
    -- What comes is the first of what is to come.
    first_comes : (given : p.Given) → p.IsFixed origin.plan given → (before after : List (List ℕ)) (item : Ordered (Message T U J) A) (read : U) → item.value.outcome ≡ Ok read → IsReadingAt p origin before item after
        → to_come given before ≡ p.reading_value given read ∷ to_come given after
    first_comes given fixed before after item read is r =
        let t = p.tree origin.plan given in
        let with_children : IsReadingWith p origin.plan item.value.of item.child_count read = rw is at r.of.reading in
        let both = law origin.plan item.value.of read with_children.children with_children.made given fixed in
        let count : item.child_count ≡ length (t.children (p.spec_value given item.value.of)) = with_children.count_is ∙ sym (length-map with_children.children (p.spec_value given)) ∙ ap length both.1 in
        left_passed t (map (p.spec_value given) origin.roots) (falls origin.plan given fixed) before (p.spec_value given item.value.of) item.child_count (rw r.next at r.of.at given fixed) count
        ∙ ap₂ (λ x l. x ∷ to_come given l) (sym both.0) (sym r.further)

    -- So it is found next.
    pub next_found : (found : List U) (before after : List (List ℕ)) (item : Ordered (Message T U J) A) (read : U) → item.value.outcome ≡ Ok read → IsReadingAt p origin before item after → HasFound found before → HasFound (found ++ read ∷ []) after
    next_found found before after item read is r has given fixed =
        one_more (p.reading_value given) found read (to_come given after) _ (to_come given before) (has given fixed) (first_comes given fixed before after item read is r)

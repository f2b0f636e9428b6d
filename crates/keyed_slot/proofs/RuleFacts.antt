-- Each step on a slot's table keeps its rule.
use Rattle.std.proofs.Common.{◌≡◌, ◌≢◌, ◌⊎◌, ◌∙◌, ℕ, zero, suc, Bool, true, false, List, [], ◌∷◌, ◌++◌, length, map, drop, get_or, set, Option, Some, None, inl, inr, refl, sym, ap, subst, ⊎_elim, arith, length-set, get_or-set_same}
use mathlib.Core.Logic.{dite}
use mathlib.Core.Option.{some, some-injective, some-ne-none}
use native.Mathlib.Decide.{ℕ_discrete}
use lib.ListN.{get_elem?}
use Rattle.atomic_table.specs.Table.{State, Me, keeps, takes, gives, opening, rest, Allows, Arrives}
use Rattle.atomic_table.proofs.Lists.{at_set, set_here}
use Rattle.keyed_slot.specs.declared.rule.Known.{Known}
use Rattle.keyed_slot.specs.Keyed.{Carries}
use Rattle.keyed_slot.specs.Rule.{with_key, without_key, IsSo, IsKept, Takes, Puts, TakesWith, PutsWith}

-- what is in a longer list was in it before, or is the last
at_end : {A : Type 0} (l : List A) (a b : A) (j : ℕ) → get_elem? (l ++ a ∷ []) j ≡ some b → (get_elem? l j ≡ some b) ⊎ ((j ≡ length l) × (a ≡ b))
at_end [] a b zero is = inr (refl, some-injective a b is)
at_end [] a b (suc j) is = absurd (some-ne-none b (sym is))
at_end (x ∷ xs) a b zero is = inl is
at_end (x ∷ xs) a b (suc j) is = ⊎_elim (λ (there : get_elem? xs j ≡ some b). inl there) (λ (t : (j ≡ length xs) × (a ≡ b)). inr (ap suc t.0, t.1)) (at_end xs a b j is)

only : {A : Type 0} (a b : A) (j : ℕ) → get_elem? (a ∷ []) j ≡ some b → (j ≡ 0) × (a ≡ b)
only a b zero is = (refl, some-injective a b is)
only a b (suc j) is = absurd (some-ne-none b (sym is))

abbrev carried : {X : Type 0} → X → List (ℕ × Option X) → X
carried x ((k, Some y) ∷ more) = y
carried x l = x

-- who carries one value carries no other
carried_alike : {X : Type 0} (x y : X) (xs ys : List (ℕ × Option X)) → ◌≡◌ {A = List (ℕ × Option X)} ((0, Some x) ∷ xs) ((0, Some y) ∷ ys) → x ≡ y
carried_alike x y xs ys same = ap (carried x) same

pub none_carried : {X : Type 0} (l : List (ℕ × Option X)) → map (λ (p : ℕ × Option X). p.0) l ≡ [] → l ≡ []
none_carried [] is = refl
none_carried {X} (x ∷ xs) is = absurd (let no : 0 ≡ suc (length (map (λ (p : ℕ × Option X). p.0) xs)) = ap length (sym is) in omega arith)

no_rest : {X : Type 0} (l : List (ℕ × Option X)) → map (λ (p : ℕ × Option X). p.0) l ≡ 0 ∷ [] → rest l ≡ []
no_rest [] is = refl
no_rest {X} (x ∷ xs) is = none_carried xs (ap (λ (l : List ℕ). drop 1 l) is)

at_place : {X : Type 0} (l : List (ℕ × Option X)) → map (λ (p : ℕ × Option X). p.0) l ≡ 0 ∷ [] → (left : Option X) × (l ≡ (0, left) ∷ rest l)
at_place [] is = absurd (let no : 0 ≡ 1 = ap length is in omega arith)
at_place {X} (x ∷ xs) is = (x.1, ap (λ (k : ℕ). (k, x.1) ∷ xs) (ap (λ (l : List ℕ). get_or l 0 0) is))

-- a seat that has the value out carries the slot's place
pub carries_place : {X : Type 0} (out : Bool) (l : List (ℕ × Option X)) → out ≡ true → Carries out l → (left : Option X) × (l ≡ (0, left) ∷ rest l)
carries_place out l is carries = at_place l (subst (λ (b : Bool). Carries b l) is carries)

-- a seat that has the value out carries what was put in its place
pub carries_new : {X V : Type 0} (out : Bool) (before after : Me (Option X) V) (value : X) → out ≡ true → Carries out before.1
    → after ≡ (before.0, (0, Some value) ∷ rest before.1) → after ≡ (before.0, (0, Some value) ∷ [])
carries_new {X} {V} out before after value is carries new =
    let had : map (λ (p : ℕ × Option X). p.0) before.1 ≡ 0 ∷ [] = subst (λ (b : Bool). Carries b before.1) is carries in
    new ∙ ap (λ (l : List (ℕ × Option X)). (before.0, (0, Some value) ∷ l)) (no_rest before.1 had)

module _ {X T M : Type 0} (fits : T → X → Type 0) (mark_of : X → M) (tag : T) where
  abbrev Kept : State (Option X) (Known T M X) → Type 0
  Kept = IsKept fits mark_of tag

  -- It holds of a new slot.
  pub begins : (value : X) → fits tag value → Kept (opening (0 ∷ []) (Some value ∷ []) (with_key false tag (mark_of value) None None))
  begins value fit = record {
    mark = mark_of value;
    holder = 0;
    one = refl;
    home = λ _. record { value = value; there = refl; fit = fit; marked = refl };
    each = λ seat v is.
        let at = only (with_key false tag (mark_of value) None None) v seat is in
        subst (λ (u : Known T M X). IsSo (mark_of value) 0 0 seat u) at.1 (record { key = λ _. (at.0, refl); out = λ h. absurd (let no : false ≡ true = h in cc) });
  }

  -- It is kept where the value is taken without the key,
  pub takes_value : (n : ℕ) (mark : M) → Arrives Kept n 0 (λ _. 1) (λ found after. Takes fits mark_of (with_key false tag mark None None, []) found after)
  takes_value n mark s kept wide _ =
      let long = kept.one in
      let one = get_or-set_same s.words 0 1 0 (omega arith) in
      dite (ℕ_discrete (get_or s.words 0 0) 0)
      (λ free.
      let home = kept.home free in
      let seat : Known T M X = without_key true tag kept.mark (Some home.value) in (
        seat,
        takes 0 (Some home.value),
        home.there,
        record {
          mark = kept.mark;
          holder = length s.views;
          one = length-set s.words 0 1 ∙ long;
          home = λ z. absurd (omega arith);
          each = λ j v is. ⊎_elim
              (λ (there : get_elem? s.views j ≡ some v).
              let so = kept.each j v there in
              record { key = so.key; out = λ h. absurd ((so.out h).2 free) })
              (λ (t : (j ≡ length s.views) × (seat ≡ v)).
              subst (λ (u : Known T M X). IsSo kept.mark (length s.views) (get_or (set s.words 0 1) 0 0) j u) t.1
              (record { key = λ h. absurd (let no : false ≡ true = h in cc); out = λ _. (t.0, refl, λ z. absurd (omega arith)) }))
              (at_end s.views seat v j is);
        },
        (
          λ _. record { value = home.value; fit = home.fit; is = ap (λ (m : M). (without_key true tag m (Some home.value), (0, Some home.value) ∷ [])) (sym home.marked) },
          λ away. absurd (away free),
        ),
      ))
      (λ away.
      let seat : Known T M X = without_key false tag kept.mark None in (
        seat,
        keeps,
        tt,
        record {
          mark = kept.mark;
          holder = kept.holder;
          one = length-set s.words 0 1 ∙ long;
          home = λ z. absurd (omega arith);
          each = λ j v is. ⊎_elim
              (λ (there : get_elem? s.views j ≡ some v).
              let so = kept.each j v there in
              record { key = so.key; out = λ h. ((so.out h).0, (so.out h).1, λ z. absurd (omega arith)) })
              (λ (t : (j ≡ length s.views) × (seat ≡ v)).
              subst (λ (u : Known T M X). IsSo kept.mark kept.holder (get_or (set s.words 0 1) 0 0) j u) t.1
              (record { key = λ h. absurd (let no : false ≡ true = h in cc); out = λ h. absurd (let no : false ≡ true = h in cc) }))
              (at_end s.views seat v j is);
        },
        (λ e. absurd (away e), λ _. refl),
      ))

  -- where it is put back without the key,
  pub puts_value : (id : ℕ) (m : Me (Option X) (Known T M X)) (v : Known T M X) (value : X) (more : List (ℕ × Option X)) → m ≡ (v, (0, Some value) ∷ more)
      → v.holds ≡ true → fits tag value → mark_of value ≡ v.mark → Allows Kept 1 id m 0 (λ _. 0) (λ _ after. Puts m after)
  puts_value id m v value more is holds fit marked = subst (λ (x : Me (Option X) (Known T M X)). Allows Kept 1 id x 0 (λ _. 0) (λ _ after. Puts x after)) (sym is) (λ s kept wide me _.
      let out = (kept.each id v me).out holds in
      let seat : Known T M X = record v { holds = false; put = Some value } in (
        seat,
        gives,
        tt,
        record {
          mark = kept.mark;
          holder = kept.holder;
          one = length-set s.words 0 0 ∙ kept.one;
          home = λ _. record { value = value; there = set_here s.homes 0 (some (Some value)) (omega arith); fit = fit; marked = marked ∙ out.1 };
          each = λ j u at. ⊎_elim
              (λ (t : (j ≡ id) × (seat ≡ u)).
              subst (λ (w : Known T M X). IsSo kept.mark kept.holder (get_or (set s.words 0 0) 0 0) j w) t.1
              (record { key = λ h. let k = (kept.each id v me).key h in (t.0 ∙ k.0, k.1); out = λ h. absurd (let no : false ≡ true = h in cc) }))
              (λ (t : (j ≢ id) × (get_elem? s.views j ≡ some u)).
              let so = kept.each j u t.1 in
              record { key = so.key; out = λ h. absurd (t.0 ((so.out h).0 ∙ sym out.0)) })
              (at_set s.views id j seat u at);
        },
        λ other rest same. ap (λ (x : X). record v { holds = false; put = Some x }) (carried_alike value other more rest same),
      ))

  -- where it is taken by the key,
  pub takes_value_with : (n id : ℕ) (v : Known T M X) (carried : List (ℕ × Option X)) → v.has_key ≡ true → v.holds ≡ false → v.tag ≡ tag → carried ≡ []
      → Allows Kept n id (v, carried) 0 (λ _. 1) (λ found after. TakesWith fits mark_of (v, carried) found after)
  takes_value_with n id v carried has holds tagged none = subst (λ (c : List (ℕ × Option X)). Allows Kept n id (v, c) 0 (λ _. 1) (λ found after. TakesWith fits mark_of (v, c) found after)) (sym none) (λ s kept wide me _.
      let one = get_or-set_same s.words 0 1 0 (omega arith) in
      let key = (kept.each id v me).key has in
      dite (ℕ_discrete (get_or s.words 0 0) 0)
      (λ free.
      let home = kept.home free in
      let seat : Known T M X = with_key true v.tag v.mark (Some home.value) None in (
        seat,
        takes 0 (Some home.value),
        home.there,
        record {
          mark = kept.mark;
          holder = id;
          one = length-set s.words 0 1 ∙ kept.one;
          home = λ z. absurd (omega arith);
          each = λ j u at. ⊎_elim
              (λ (t : (j ≡ id) × (seat ≡ u)).
              subst (λ (w : Known T M X). IsSo kept.mark id (get_or (set s.words 0 1) 0 0) j w) t.1
              (record { key = λ _. (t.0 ∙ key.0, key.1); out = λ _. (t.0, key.1, λ z. absurd (omega arith)) }))
              (λ (t : (j ≢ id) × (get_elem? s.views j ≡ some u)).
              let so = kept.each j u t.1 in
              record { key = so.key; out = λ h. absurd ((so.out h).2 free) })
              (at_set s.views id j seat u at);
        },
        (
          λ _. (
            record {
              value = home.value;
              fit = subst (λ (t : T). fits t home.value) (sym tagged) home.fit;
              is = ap (λ (m : M). (with_key true v.tag m (Some home.value) None, (0, Some home.value) ∷ [])) (key.1 ∙ sym home.marked);
            },
            refl,
          ),
          λ away. absurd (away free),
        ),
      ))
      (λ away.
      let seat : Known T M X = with_key false v.tag v.mark None None in (
        seat,
        keeps,
        tt,
        record {
          mark = kept.mark;
          holder = kept.holder;
          one = length-set s.words 0 1 ∙ kept.one;
          home = λ z. absurd (omega arith);
          each = λ j u at. ⊎_elim
              (λ (t : (j ≡ id) × (seat ≡ u)).
              subst (λ (w : Known T M X). IsSo kept.mark kept.holder (get_or (set s.words 0 1) 0 0) j w) t.1
              (record { key = λ _. (t.0 ∙ key.0, key.1); out = λ h. absurd (let no : false ≡ true = h in cc) }))
              (λ (t : (j ≢ id) × (get_elem? s.views j ≡ some u)).
              let so = kept.each j u t.1 in
              record { key = so.key; out = λ h. ((so.out h).0, (so.out h).1, λ z. absurd (omega arith)) })
              (at_set s.views id j seat u at);
        },
        (λ free. absurd (away free), λ _. refl),
      )))

  -- and where it is put back by the key.
  pub puts_value_with : (id : ℕ) (m : Me (Option X) (Known T M X)) (v : Known T M X) (value : X) → m ≡ (v, (0, Some value) ∷ []) → v.has_key ≡ true → v.holds ≡ true
      → fits tag value → Allows Kept 1 id m 0 (λ _. 0) (λ _ after. PutsWith mark_of m after)
  puts_value_with id m v value is has holds fit = subst (λ (x : Me (Option X) (Known T M X)). Allows Kept 1 id x 0 (λ _. 0) (λ _ after. PutsWith mark_of x after)) (sym is) (λ s kept wide me _.
      let so = kept.each id v me in
      let seat : Known T M X = with_key false v.tag (mark_of value) v.took (Some value) in (
        seat,
        gives,
        tt,
        record {
          mark = mark_of value;
          holder = kept.holder;
          one = length-set s.words 0 0 ∙ kept.one;
          home = λ _. record { value = value; there = set_here s.homes 0 (some (Some value)) (omega arith); fit = fit; marked = refl };
          each = λ j u at. ⊎_elim
              (λ (t : (j ≡ id) × (seat ≡ u)).
              subst (λ (w : Known T M X). IsSo (mark_of value) kept.holder (get_or (set s.words 0 0) 0 0) j w) t.1
              (record { key = λ _. (t.0 ∙ (so.key has).0, refl); out = λ h. absurd (let no : false ≡ true = h in cc) }))
              (λ (t : (j ≢ id) × (get_elem? s.views j ≡ some u)).
              let other = kept.each j u t.1 in
              record { key = λ h. absurd (t.0 ((other.key h).0 ∙ sym (so.key has).0)); out = λ h. absurd (t.0 ((other.out h).0 ∙ sym (so.out holds).0)) })
              (at_set s.views id j seat u at);
        },
        λ other same. ap (λ (x : X). (with_key false v.tag (mark_of x) v.took (Some x), [])) (carried_alike value other [] [] same),
      ))

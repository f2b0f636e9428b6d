-- The differences of lists that begin with an entry, by those of the rest.
use Rattle.std.proofs.Common.{◌≡◌, Bool, true, false, cond, ◌||◌, List, [], ◌∷◌, ◌++◌, Option, Some, None, refl, sym, ap, ap₂, ◌∙◌, subst}
use Rattle.std.specs.Prelude.{if◌then◌else◌}
use Rattle.std.specs.List.{AllByRecursion}
use Rattle.std.specs.Option.{option_to_list}
use Rattle.jwalk_changes.specs.declared.facts.Facts.{Facts}
use Rattle.jwalk_changes.specs.declared.change.Change.{Change}
use Rattle.jwalk_changes.specs.declared.change.Change.TheVariants.{Added, Removed, Changed}
use Rattle.jwalk_changes.specs.AtPath.{is_before, is_same, is_below}
use Rattle.jwalk_changes.specs.Facts.{which, is_any}
use Rattle.jwalk_changes.specs.Change.{path_of, change, difference}
use Rattle.jwalk_changes.specs.Differences.{Ascends, at, is_within, IsDifferences}
use Rattle.jwalk_changes.proofs.OrderFacts.{Path, same_path}
use Rattle.jwalk_changes.proofs.ListFacts.{all_map, at_none, at_some, all_found}

module _ {O N U : Type 0} (op : O → Path) (of : O → Facts) (np : N → Path) (nf : N → Facts) (place : U → Path) where
  abbrev Same : List O → List N → List U → List (Change O N) → Type 0
  Same = IsDifferences op of np nf place

  -- a difference comes of an entry on one side
  from_either : (P : Type 0) (a : Option O) (b : Option N) (c : Change O N) → ((e : O) → a ≡ Some e → P) → ((f : N) → b ≡ Some f → P) → difference of nf a b ≡ Some c → P
  from_either P None None c f g is = absurd (cc is)
  from_either P None (Some y) c f g is = g y refl
  from_either P (Some x) b c f g is = f x refl

  not_hidden : (w : Bool) (o : Option (Change O N)) (c : Change O N) → (if w then None else o) ≡ Some c → o ≡ Some c
  not_hidden true o c is = absurd (cc is)
  not_hidden false o c is = is

  -- What comes before all entries comes before all differences.
  pub rest_after : (p : Path) (lo : List O) (ln : List N) (lu : List U) (rest : List (Change O N)) → AllByRecursion (λ x. is_before p (op x) ≡ true) lo → AllByRecursion (λ y. is_before p (np y) ≡ true) ln → Same lo ln lu rest
      → AllByRecursion (λ c. is_before p (path_of op np c) ≡ true) rest
  rest_after p lo ln lu rest olds news is =
      all_map (λ c. at (path_of op np) (path_of op np c) rest ≡ Some c) (λ c. is_before p (path_of op np c) ≡ true)
      (λ c found.
      let q = path_of op np c in
      let P : Type 0 = is_before p q ≡ true in
      from_either P (at op q lo) (at np q ln) c
      (λ e here. let got = at_some op (λ x. is_before p (op x) ≡ true) q lo e olds here in subst (λ (k : Path). is_before p k ≡ true) (same_path (op e) q got.1) got.0)
      (λ f here. let got = at_some np (λ y. is_before p (np y) ≡ true) q ln f news here in subst (λ (k : Path). is_before p k ≡ true) (same_path (np f) q got.1) got.0)
      (not_hidden (is_within place lu q) (difference of nf (at op q lo) (at np q ln)) c (sym (is.each q) ∙ found)))
      rest (all_found (path_of op np) rest is.ascends)

  -- ---- only the old list has the first path

  removed_at : (b : Bool) (e : O) (lo : List O) (ln : List N) (lu : List U) (rest : List (Change O N)) (p : Path) → is_same (op e) p ≡ b
      → AllByRecursion (λ y. is_before (op e) (np y) ≡ true) ln → is_within place lu (op e) ≡ false → Same lo ln lu rest
      → cond b (Some (Removed e)) (at (path_of op np) p rest) ≡ (if is_within place lu p then None else difference of nf (cond b (Some e) (at op p lo)) (at np p ln))
  removed_at true e lo ln lu rest p same news outside is =
      let here : op e ≡ p = same_path (op e) p same in
      sym (ap₂ (λ w (a : Option N). if w then None else difference of nf (Some e) a)
      (ap (is_within place lu) (sym here) ∙ outside) (ap (λ k. at np k ln) (sym here) ∙ at_none np (op e) ln news))
  removed_at false e lo ln lu rest p same news outside is = is.each p

  pub add_removed : (e : O) (lo : List O) (ln : List N) (lu : List U) (rest : List (Change O N)) → Ascends op (e ∷ lo) → AllByRecursion (λ y. is_before (op e) (np y) ≡ true) ln → is_within place lu (op e) ≡ false
      → Same lo ln lu rest → Same (e ∷ lo) ln lu (Removed e ∷ rest)
  add_removed e lo ln lu rest olds news outside is = record {
    ascends = (rest_after (op e) lo ln lu rest olds.0 news is, is.ascends);
    each = λ p. removed_at (is_same (op e) p) e lo ln lu rest p refl news outside is;
  }

  -- ---- only the new list has it

  added_at : (b : Bool) (f : N) (lo : List O) (ln : List N) (lu : List U) (rest : List (Change O N)) (p : Path) → is_same (np f) p ≡ b
      → AllByRecursion (λ x. is_before (np f) (op x) ≡ true) lo → is_within place lu (np f) ≡ false → Same lo ln lu rest
      → cond b (Some (Added f)) (at (path_of op np) p rest) ≡ (if is_within place lu p then None else difference of nf (at op p lo) (cond b (Some f) (at np p ln)))
  added_at true f lo ln lu rest p same olds outside is =
      let here : np f ≡ p = same_path (np f) p same in
      sym (ap₂ (λ w (a : Option O). if w then None else difference of nf a (Some f))
      (ap (is_within place lu) (sym here) ∙ outside) (ap (λ k. at op k lo) (sym here) ∙ at_none op (np f) lo olds))
  added_at false f lo ln lu rest p same olds outside is = is.each p

  pub add_added : (f : N) (lo : List O) (ln : List N) (lu : List U) (rest : List (Change O N)) → Ascends np (f ∷ ln) → AllByRecursion (λ x. is_before (np f) (op x) ≡ true) lo → is_within place lu (np f) ≡ false
      → Same lo ln lu rest → Same lo (f ∷ ln) lu (Added f ∷ rest)
  add_added f lo ln lu rest news olds outside is = record {
    ascends = (rest_after (np f) lo ln lu rest olds news.0 is, is.ascends);
    each = λ p. added_at (is_same (np f) p) f lo ln lu rest p refl olds outside is;
  }

  -- ---- both have it

  changed_here : (w : Bool) (e : O) (f : N) (rest : List (Change O N)) (p : Path) → is_any (which (of e) (nf f)) ≡ w → is_same (np f) p ≡ true → at (path_of op np) p rest ≡ None
      → at (path_of op np) p (option_to_list (change of nf e f) ++ rest) ≡ change of nf e f
  changed_here true e f rest p any same none =
      ap (λ w. at (path_of op np) p (option_to_list (if w then Some (Changed e f (which (of e) (nf f))) else None) ++ rest)) any
      ∙ ap (λ b. cond b (Some (Changed e f (which (of e) (nf f)))) (at (path_of op np) p rest)) same
      ∙ sym (ap (λ w. if w then Some (Changed e f (which (of e) (nf f))) else None) any)
  changed_here false e f rest p any same none =
      ap (λ w. at (path_of op np) p (option_to_list (if w then Some (Changed e f (which (of e) (nf f))) else None) ++ rest)) any
      ∙ none
      ∙ sym (ap (λ w. if w then Some (Changed e f (which (of e) (nf f))) else None) any)

  changed_elsewhere : (w : Bool) (e : O) (f : N) (rest : List (Change O N)) (p : Path) → is_any (which (of e) (nf f)) ≡ w → is_same (np f) p ≡ false
      → at (path_of op np) p (option_to_list (change of nf e f) ++ rest) ≡ at (path_of op np) p rest
  changed_elsewhere true e f rest p any same =
      ap (λ w. at (path_of op np) p (option_to_list (if w then Some (Changed e f (which (of e) (nf f))) else None) ++ rest)) any
      ∙ ap (λ b. cond b (Some (Changed e f (which (of e) (nf f)))) (at (path_of op np) p rest)) same
  changed_elsewhere false e f rest p any same = ap (λ w. at (path_of op np) p (option_to_list (if w then Some (Changed e f (which (of e) (nf f))) else None) ++ rest)) any

  changed_ascends : (w : Bool) (e : O) (f : N) (rest : List (Change O N)) → is_any (which (of e) (nf f)) ≡ w → AllByRecursion (λ c. is_before (np f) (path_of op np c) ≡ true) rest → Ascends (path_of op np) rest
      → Ascends (path_of op np) (option_to_list (change of nf e f) ++ rest)
  changed_ascends true e f rest any after all = subst (λ w. Ascends (path_of op np) (option_to_list (if w then Some (Changed e f (which (of e) (nf f))) else None) ++ rest)) (sym any) (after, all)
  changed_ascends false e f rest any after all = subst (λ w. Ascends (path_of op np) (option_to_list (if w then Some (Changed e f (which (of e) (nf f))) else None) ++ rest)) (sym any) all

  both_at : (b : Bool) (e : O) (f : N) (lo : List O) (ln : List N) (lu : List U) (rest : List (Change O N)) (p : Path) → is_same (np f) p ≡ b → op e ≡ np f
      → AllByRecursion (λ x. is_before (op e) (op x) ≡ true) lo → AllByRecursion (λ y. is_before (np f) (np y) ≡ true) ln → is_within place lu (op e) ≡ false → Same lo ln lu rest
      → at (path_of op np) p (option_to_list (change of nf e f) ++ rest) ≡ (if is_within place lu p then None else difference of nf (cond b (Some e) (at op p lo)) (cond b (Some f) (at np p ln)))
  both_at true e f lo ln lu rest p same one olds news outside is =
      let here : np f ≡ p = same_path (np f) p same in
      let here_old : op e ≡ p = one ∙ here in
      let none : at (path_of op np) p rest ≡ None =
      is.each p ∙ ap (λ w. if w then None else difference of nf (at op p lo) (at np p ln)) (ap (is_within place lu) (sym here_old) ∙ outside)
      ∙ ap₂ (difference of nf) (ap (λ k. at op k lo) (sym here_old) ∙ at_none op (op e) lo olds) (ap (λ k. at np k ln) (sym here) ∙ at_none np (np f) ln news) in
      changed_here (is_any (which (of e) (nf f))) e f rest p refl same none
      ∙ sym (ap (λ w. if w then None else change of nf e f) (ap (is_within place lu) (sym here_old) ∙ outside))
  both_at false e f lo ln lu rest p same one olds news outside is = changed_elsewhere (is_any (which (of e) (nf f))) e f rest p refl same ∙ is.each p

  pub add_both : (e : O) (f : N) (lo : List O) (ln : List N) (lu : List U) (rest : List (Change O N)) → op e ≡ np f → Ascends op (e ∷ lo) → Ascends np (f ∷ ln) → is_within place lu (op e) ≡ false
      → Same lo ln lu rest → Same (e ∷ lo) (f ∷ ln) lu (option_to_list (change of nf e f) ++ rest)
  add_both e f lo ln lu rest one olds news outside is = record {
    ascends = changed_ascends (is_any (which (of e) (nf f))) e f rest refl
        (rest_after (np f) lo ln lu rest (subst (λ (k : Path). AllByRecursion (λ x. is_before k (op x) ≡ true) lo) one olds.0) news.0 is) is.ascends;
    each = λ p.
        both_at (is_same (np f) p) e f lo ln lu rest p refl one olds.0 news.0 outside is
        ∙ ap (λ b. if is_within place lu p then None else difference of nf (cond b (Some e) (at op p lo)) (cond (is_same (np f) p) (Some f) (at np p ln)))
        (ap (λ k. is_same k p) (sym one));
  }

  -- ---- nothing is told of it

  skipped_old : (b w : Bool) (e : O) (lo : List O) (ln : List N) (lu : List U) (p : Path) → is_same (op e) p ≡ b → is_within place lu p ≡ w → is_within place lu (op e) ≡ true
      → (if is_within place lu p then None else difference of nf (at op p lo) (at np p ln)) ≡ (if is_within place lu p then None else difference of nf (cond b (Some e) (at op p lo)) (at np p ln))
  skipped_old true true e lo ln lu p same within here = ap (λ w. if w then None else difference of nf (at op p lo) (at np p ln)) within ∙ sym (ap (λ w. if w then None else difference of nf (Some e) (at np p ln)) within)
  skipped_old true false e lo ln lu p same within here = absurd (cc (ap (is_within place lu) (same_path (op e) p same), here, within))
  skipped_old false w e lo ln lu p same within here = refl

  pub skip_old : (e : O) (lo : List O) (ln : List N) (lu : List U) (rest : List (Change O N)) → is_within place lu (op e) ≡ true → Same lo ln lu rest → Same (e ∷ lo) ln lu rest
  skip_old e lo ln lu rest within is = record {
    ascends = is.ascends;
    each = λ p. is.each p ∙ skipped_old (is_same (op e) p) (is_within place lu p) e lo ln lu p refl refl within;
  }

  skipped_new : (b w : Bool) (f : N) (lo : List O) (ln : List N) (lu : List U) (p : Path) → is_same (np f) p ≡ b → is_within place lu p ≡ w → is_within place lu (np f) ≡ true
      → (if is_within place lu p then None else difference of nf (at op p lo) (at np p ln)) ≡ (if is_within place lu p then None else difference of nf (at op p lo) (cond b (Some f) (at np p ln)))
  skipped_new true true f lo ln lu p same within here = ap (λ w. if w then None else difference of nf (at op p lo) (at np p ln)) within ∙ sym (ap (λ w. if w then None else difference of nf (at op p lo) (Some f)) within)
  skipped_new true false f lo ln lu p same within here = absurd (cc (ap (is_within place lu) (same_path (np f) p same), here, within))
  skipped_new false w f lo ln lu p same within here = refl

  pub skip_new : (f : N) (lo : List O) (ln : List N) (lu : List U) (rest : List (Change O N)) → is_within place lu (np f) ≡ true → Same lo ln lu rest → Same lo (f ∷ ln) lu rest
  skip_new f lo ln lu rest within is = record {
    ascends = is.ascends;
    each = λ p. is.each p ∙ skipped_new (is_same (np f) p) (is_within place lu p) f lo ln lu p refl refl within;
  }

  -- ---- a place below which nothing is left

  or_left : (w : Bool) (o : Option (Change O N)) → o ≡ None → (if w then None else o) ≡ None
  or_left true o is = refl
  or_left false o is = is

  passed_at : (b : Bool) (u : U) (lo : List O) (ln : List N) (lu : List U) (p : Path) → is_below (place u) p ≡ b → (is_below (place u) p ≡ true → (at op p lo ≡ None) × (at np p ln ≡ None))
      → (if is_within place lu p then None else difference of nf (at op p lo) (at np p ln)) ≡ (if (b || is_within place lu p) then None else difference of nf (at op p lo) (at np p ln))
  passed_at true u lo ln lu p below none =
      let nothing = none below in
      or_left (is_within place lu p) (difference of nf (at op p lo) (at np p ln)) (ap₂ (difference of nf) nothing.0 nothing.1)
  passed_at false u lo ln lu p below none = refl

  pub pass_place : (u : U) (lo : List O) (ln : List N) (lu : List U) (rest : List (Change O N)) → ((p : Path) → is_below (place u) p ≡ true → (at op p lo ≡ None) × (at np p ln ≡ None)) → Same lo ln lu rest → Same lo ln (u ∷ lu) rest
  pass_place u lo ln lu rest none is = record {
    ascends = is.ascends;
    each = λ p. is.each p ∙ passed_at (is_below (place u) p) u lo ln lu p refl (none p);
  }

  pub none_differ : (lu : List U) → Same [] [] lu []
  none_differ lu = record { ascends = tt; each = λ p. sym (or_left (is_within place lu p) None refl) }

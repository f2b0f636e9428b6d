-- Where an entry stands in a listing, and what comes behind it.
use Prim.Native.Nat.{zero}
use Rattle.std.proofs.Common.{◌≡◌, ◌∙◌, ◌≤◌, ◌+◌, ◌⊎◌, inl, inr, ℕ, suc, List, [], ◌∷◌, ◌++◌, map, flat_map, Option, Some, None, Ok, Err, ap, subst, refl, sym, arith, append_assoc}
use Rattle.std.specs.Prelude.{option_map}
use Rattle.jwalk_model.specs.Entry.{Children, Entry, Item}
use Rattle.jwalk_model.specs.ReadDir.{Spec, Outcome, spec_of, spec_below}
use Rattle.jwalk_model.specs.Listing.{Source, nothing, unread, was_read, source_of, pair, pairs_of, after_reading, stands, below}
use Rattle.jwalk_ignore.specs.Callback.IgnoreFiles.{depth_of}
use Rattle.jwalk_ignore_laws.proofs.BelowFacts.{AtLeast, Steps, least_append, least_behind, least_less, steps_append, steps_more}

-- an element of two lists is in the first or in the second
in_either : {X : Type 0} (xs ys front : List X) (x : X) (back : List X) → xs ++ ys ≡ front ++ x ∷ back
    → ((rest : List X) × (xs ≡ front ++ x ∷ rest) × (back ≡ rest ++ ys)) ⊎ ((others : List X) × (ys ≡ others ++ x ∷ back))
in_either [] ys front x back is = inr (front, is)
in_either {X} (z ∷ xs) ys [] x back is =
    let first : z ≡ x = cc in
    let others : xs ++ ys ≡ back = cc in
    inl (xs, ap (λ (w : X). w ∷ xs) first, sym others)
in_either {X} (z ∷ xs) ys (y ∷ front) x back is =
    let first : z ≡ y = cc in
    let others : xs ++ ys ≡ front ++ x ∷ back = cc in
    elim (in_either xs ys front x back others) [
      | inl (rest, here, behind) ↦ inl (rest, ap (λ (w : X). w ∷ xs) first ∙ ap (λ (l : List X). y ∷ l) here, behind)
      | inr there ↦ inr there
    ]

module _ {R E : Type 0} where
  -- an item whose directory was read is where it was
  read_at : (x : Item R E) (outcome : Outcome R E) → depth_of (after_reading outcome x) ≡ depth_of x
  read_at x (Ok r) = refl
  read_at (Ok e) (Err f) = refl
  read_at (Err g) (Err f) = refl

  -- the entry of a directory that was read has its depth and its path
  read_is : (e f : Entry R E) (c d : Children R) (outcome : Outcome R E) → e.read_children ≡ Some c → after_reading outcome (Ok e) ≡ Ok f → f.read_children ≡ Some d → (e.depth ≡ f.depth) × (c.path ≡ d.path)
  read_is e f c d (Ok r) has is dir =
      let same : e ≡ f = cc in
      let child : c ≡ d = cc in
      (ap (λ (g : Entry R E). g.depth) same, ap (λ (g : Children R). g.path) child)
  read_is e f c d (Err k) has is dir =
      let with_it : Entry R E = record e { read_children = option_map (λ (g : Children R). record g { error = Some k }) e.read_children } in
      let same : with_it ≡ f = cc in
      let inside : with_it.read_children ≡ Some (record c { error = Some k }) = ap (option_map (λ (g : Children R). record g { error = Some k })) has in
      let child : record c { error = Some k } ≡ d = cc in
      (ap (λ (g : Entry R E). g.depth) same, ap (λ (g : Children R). g.path) child)

module _ {R E : Type 0} (reading : Spec R → Outcome R E) where
  -- items, each with what is below it
  abbrev pub listed : (Source R E → List (Item R E)) → R → List (Item R E) → List (Item R E)
  listed lower state list = flat_map (λ p. stands reading p.item p.source ∷ lower p.source) (map (pair state) list)

  pub nothing_below : (n : ℕ) → below reading n nothing ≡ []
  unfolding below
  nothing_below zero = refl
  nothing_below (suc n) = refl

module _ {R E : Type 0} (reading : Spec R → Outcome R E) (Fits : Spec R → Type 0) where
  -- The directory of an item fits, if it has one.
  abbrev pub DirectoryFits : Option (Spec R) → Type 0
  DirectoryFits None = Unit {0}
  DirectoryFits (Some spec) = Fits spec

  -- Each item is at this depth, and its directory fits.
  abbrev pub ItemsFit : ℕ → R → List (Item R E) → Type 0
  ItemsFit depth state [] = Unit {0}
  ItemsFit depth state (x ∷ list) = (depth_of x ≡ depth) × DirectoryFits (spec_of state x) × ItemsFit depth state list

  -- What a directory is read as fits, one level below it.
  abbrev pub OpensTo : Spec R → Outcome R E → Type 0
  OpensTo spec (Ok r) = ItemsFit (spec.depth + 1) r.state r.list
  OpensTo spec (Err f) = Unit {0}

  -- A source at this depth fits.
  abbrev pub SourceFits : ℕ → Source R E → Type 0
  SourceFits depth nothing = Unit {0}
  SourceFits depth (unread spec) = (spec.depth ≡ depth) × Fits spec
  SourceFits depth (was_read spec outcome) = ⊥

  pub source_fits : (depth : ℕ) (state : R) (x : Item R E) → depth_of x ≡ depth → DirectoryFits (spec_of state x) → SourceFits depth (source_of (spec_of state x))
  source_fits depth state (Err f) at fits = tt
  source_fits depth state (Ok e) at fits = by e.read_children fits
    where
      by : (o : Option (Children R)) → DirectoryFits (option_map (spec_below state e) o) → SourceFits depth (source_of (option_map (spec_below state e) o))
      by None fits = tt
      by (Some c) fits = (at, fits)

  pub stands_at : (x : Item R E) (source : Source R E) → depth_of (stands reading x source) ≡ depth_of x
  stands_at x nothing = refl
  stands_at x (unread spec) = read_at x (reading spec)
  stands_at x (was_read spec outcome) = read_at x outcome

  -- how deep a list is, from this depth on
  abbrev From : ℕ → List (Item R E) → Type 0
  From depth list = AtLeast depth list × Steps depth list

  listed_from : (depth : ℕ) (lower : Source R E → List (Item R E)) (state : R) → ((source : Source R E) → SourceFits depth source → From (depth + 1) (lower source))
      → (list : List (Item R E)) → ItemsFit depth state list → From depth (listed reading lower state list)
  listed_from depth lower state each [] fits = (tt, tt)
  listed_from depth lower state each (x ∷ list) (at, fits, others) =
      let source : Source R E = source_of (spec_of state x) in
      let inside = each source (source_fits depth state x at fits) in
      let rest = listed_from depth lower state each list others in
      let here : depth_of (stands reading x source) ≡ depth = stands_at x source ∙ at in (
        (omega (arith, here), least_append depth (lower source) (listed reading lower state list) (least_less depth (depth + 1) (lower source) (omega arith) inside.0) rest.0),
        (omega (arith, here), steps_append (depth_of (stands reading x source) + 1) depth (lower source) (listed reading lower state list) (steps_more (depth + 1) (depth_of (stands reading x source) + 1) (lower source) (omega (arith, here)) inside.1) (least_less depth (depth + 1) (lower source) (omega arith) inside.0) (omega (arith, here)) rest.1),
      )

  outcome_from : (depth : ℕ) (lower : Source R E → List (Item R E)) → ((source : Source R E) → SourceFits (depth + 1) source → From (depth + 1 + 1) (lower source)) → (spec : Spec R) → spec.depth ≡ depth
      → (outcome : Outcome R E) → OpensTo spec outcome → From (depth + 1) (flat_map (λ p. stands reading p.item p.source ∷ lower p.source) (pairs_of outcome))
  outcome_from depth lower each spec at (Err f) h = (tt, tt)
  outcome_from depth lower each spec at (Ok r) h = listed_from (depth + 1) lower r.state each r.list (subst (λ (n : ℕ). ItemsFit (n + 1) r.state r.list) at h)

  -- where an entry of a directory stands: its directory is read, and what is below comes right behind it
  pub record Found (greatest : ℕ) (e : Entry R E) (c : Children R) (back : List (Item R E)) : Type 0 where
    pub spec : Spec R
    pub levels : ℕ
    pub rest : List (Item R E)
    pub fits : Fits spec
    pub depth_is : spec.depth ≡ e.depth
    pub path_is : spec.path ≡ c.path
    pub levels_are : levels + spec.depth ≡ greatest
    pub back_is : back ≡ below reading levels (unread spec) ++ rest
    pub closes : Steps e.depth rest

  -- the directory of an item that stands as an entry of one
  abbrev Directory : R → Item R E → Entry R E → Children R → Type 0
  Directory state x e c = (spec : Spec R) × (spec_of state x ≡ Some spec) × (spec.depth ≡ e.depth) × (spec.path ≡ c.path)

  directory_by : (state : R) (f e : Entry R E) (c : Children R) (o : Option (Children R)) → f.read_children ≡ o → stands reading (Ok f) (source_of (option_map (spec_below state f) o)) ≡ Ok e → e.read_children ≡ Some c
      → Directory state (Ok f) e c
  directory_by state f e c None has is dir =
      let same : f ≡ e = cc in
      let none : None ≡ Some c = sym has ∙ ap (λ (g : Entry R E). g.read_children) same ∙ dir in
      absurd (cc)
  directory_by state f e c (Some d) has is dir =
      let spec : Spec R = spec_below state f d in
      let at = read_is f e d c (reading spec) has is dir in
      (spec, ap (option_map (spec_below state f)) has, at.0, at.1)

  directory_of : (state : R) (x : Item R E) (e : Entry R E) (c : Children R) → stands reading x (source_of (spec_of state x)) ≡ Ok e → e.read_children ≡ Some c → Directory state x e c
  directory_of state (Err f) e c is dir = absurd (cc)
  directory_of state (Ok f) e c is dir = directory_by state f e c f.read_children refl is dir

  found_more : (greatest : ℕ) (e : Entry R E) (c : Children R) (back others : List (Item R E)) (depth : ℕ) → AtLeast depth back → depth ≤ e.depth → Steps depth others → Found greatest e c back → Found greatest e c (back ++ others)
  found_more greatest e c back others depth least less steps f =
      let deep : AtLeast depth (below reading f.levels (unread f.spec) ++ f.rest) = subst (AtLeast depth) f.back_is least in record {
        spec = f.spec;
        levels = f.levels;
        rest = f.rest ++ others;
        fits = f.fits;
        depth_is = f.depth_is;
        path_is = f.path_is;
        levels_are = f.levels_are;
        back_is = ap (λ (l : List (Item R E)). l ++ others) f.back_is ∙ append_assoc (below reading f.levels (unread f.spec)) f.rest others;
        closes = steps_append e.depth depth f.rest others f.closes (least_behind depth (below reading f.levels (unread f.spec)) f.rest deep) less steps;
      }

  module _ (greatest : ℕ) where
    -- it is found in a list where an entry of a directory stands in it
    abbrev pub Finds : List (Item R E) → Type 0
    Finds list = (front : List (Item R E)) (e : Entry R E) (c : Children R) (back : List (Item R E)) → list ≡ front ++ Ok e ∷ back → e.read_children ≡ Some c → Found greatest e c back

    finds_none : Finds []
    finds_none [] e c back is dir = absurd (cc)
    finds_none (y ∷ front) e c back is dir = absurd (cc)

    found_inside : (depth : ℕ) (lower others front : List (Item R E)) (e : Entry R E) (c : Children R) (back : List (Item R E)) → From (depth + 1) lower → Steps depth others → Finds lower → Finds others
        → lower ++ others ≡ front ++ Ok e ∷ back → e.read_children ≡ Some c → Found greatest e c back
    found_inside depth lower others front e c back from steps inside behind is dir =
        elim (in_either lower others front (Ok e) back is) [
          | inl (rest, here, back_is) ↦
              let deep : AtLeast (depth + 1) (front ++ Ok e ∷ rest) = subst (AtLeast (depth + 1)) here from.0 in
              let at = least_behind (depth + 1) front (Ok e ∷ rest) deep in
              subst (λ (l : List (Item R E)). Found greatest e c l) (sym back_is)
              (found_more greatest e c rest others depth (least_less depth (depth + 1) rest (omega arith) at.1) (omega (arith, at.0)) steps (inside front e c rest here dir))
          | inr (more, there) ↦ behind more e c back there dir
        ]

    found_at : (n depth : ℕ) (state : R) (x : Item R E) (others : List (Item R E)) (e : Entry R E) (c : Children R) (back : List (Item R E)) → depth_of x ≡ depth → DirectoryFits (spec_of state x) → n + depth ≡ greatest → Steps depth others
        → stands reading x (source_of (spec_of state x)) ≡ Ok e → below reading n (source_of (spec_of state x)) ++ others ≡ back → e.read_children ≡ Some c → Found greatest e c back
    found_at n depth state x others e c back at fits levels steps is behind dir =
        let (spec, spec_is, depth_is, path_is) = directory_of state x e c is dir in
        let here : e.depth ≡ depth = sym (ap depth_of is) ∙ stands_at x (source_of (spec_of state x)) ∙ at in record {
          spec = spec;
          levels = n;
          rest = others;
          fits = subst DirectoryFits spec_is fits;
          depth_is = depth_is;
          path_is = path_is;
          levels_are = omega (arith, levels, depth_is, here);
          back_is = sym behind ∙ ap (λ (o : Option (Spec R)). below reading n (source_of o) ++ others) spec_is;
          closes = steps_more depth e.depth others (omega (arith, here)) steps;
        }

    module _ (n depth : ℕ) (levels : n + depth ≡ greatest) (deeper : (source : Source R E) → SourceFits depth source → From (depth + 1) (below reading n source)) (inside : (source : Source R E) → SourceFits depth source → Finds (below reading n source)) where
      pub found_listed : (state : R) (list : List (Item R E)) → ItemsFit depth state list → Finds (listed reading (below reading n) state list)
      found_listed state [] fits front e c back is dir = finds_none front e c back is dir
      found_listed state (x ∷ list) (at, fits, others) [] e c back is dir =
          let here : stands reading x (source_of (spec_of state x)) ≡ Ok e = cc in
          let behind : below reading n (source_of (spec_of state x)) ++ listed reading (below reading n) state list ≡ back = cc in
          found_at n depth state x (listed reading (below reading n) state list) e c back at fits levels (listed_from depth (below reading n) state deeper list others).1 here behind dir
      found_listed state (x ∷ list) (at, fits, others) (y ∷ front) e c back is dir =
          let source : Source R E = source_of (spec_of state x) in
          let behind : below reading n source ++ listed reading (below reading n) state list ≡ front ++ Ok e ∷ back = cc in
          let fit = source_fits depth state x at fits in
          found_inside depth (below reading n source) (listed reading (below reading n) state list) front e c back (deeper source fit) (listed_from depth (below reading n) state deeper list others).1 (inside source fit) (found_listed state list others) behind dir

      found_outcome : (spec : Spec R) → spec.depth + 1 ≡ depth → (outcome : Outcome R E) → OpensTo spec outcome → Finds (flat_map (λ p. stands reading p.item p.source ∷ below reading n p.source) (pairs_of outcome))
      found_outcome spec at (Err f) h = finds_none
      found_outcome spec at (Ok r) h = found_listed r.state r.list (subst (λ (d : ℕ). ItemsFit d r.state r.list) at h)

  module _ (opens : (spec : Spec R) → Fits spec → OpensTo spec (reading spec)) where
    pub below_from : (n depth : ℕ) (source : Source R E) → SourceFits depth source → From (depth + 1) (below reading n source)
    unfolding below
    below_from zero depth source fits = (tt, tt)
    below_from (suc n) depth nothing fits = (tt, tt)
    below_from (suc n) depth (unread spec) (at, fits) = outcome_from depth (below reading n) (below_from n (depth + 1)) spec at (reading spec) (opens spec fits)
    below_from (suc n) depth (was_read spec outcome) fits = absurd fits

    -- it is found below a source that fits
    pub found_below : (greatest n depth : ℕ) (source : Source R E) → SourceFits depth source → n + depth ≡ greatest → Finds greatest (below reading n source)
    unfolding below
    found_below greatest zero depth source fits levels = finds_none greatest
    found_below greatest (suc n) depth nothing fits levels = finds_none greatest
    found_below greatest (suc n) depth (unread spec) (at, fits) levels =
        let one : n + (depth + 1) ≡ greatest = omega (arith, levels) in
        found_outcome greatest n (depth + 1) one (below_from n (depth + 1)) (λ source fit. found_below greatest n (depth + 1) source fit one) spec (ap (λ (d : ℕ). d + 1) at) (reading spec) (opens spec fits)
    found_below greatest (suc n) depth (was_read spec outcome) fits levels = absurd fits

-- The list of a directory, as a walk makes it at two depths.
use Rattle.std.proofs.Common.{◌≡◌, ◌∙◌, ◌+◌, ◌⊎◌, inl, inr, ℕ, Bool, true, false, cond, List, [], ◌∷◌, ◌++◌, map, filter, flat_map, Option, Some, None, Ok, Err, ap, refl, sym, arith}
use Rattle.std.proofs.lemmas.List.{map-append}
use Rattle.std.proofs.lemmas.List.Elements.{All-head, All-tail}
use Rattle.std.specs.Prelude.{◌&&◌, All, option_map}
use Rattle.std.specs.declared.io.ErrorKind.{ErrorKind}
use Rattle.jwalk_model.specs.declared.metadata.Identity.{Identity}
use Rattle.jwalk_model.specs.declared.seen.Seen.{Seen}
use Rattle.jwalk_model.specs.Error.{Failure, io, unnamed}
use Rattle.jwalk_model.specs.Entry.{Children, Entry, Item, children_at, is_hidden}
use Rattle.jwalk_model.specs.FileSystem.{Listed, Named}
use Rattle.jwalk_model.specs.Job as value
use Rattle.jwalk_model.specs.Job.{Job, Processing, either}
use Rattle.jwalk_model.specs.Paths.{join}
use Rattle.jwalk_model.specs.PathTexts.{IsName}
use Rattle.jwalk_model.specs.ReadDir.{Spec}
use Rattle.jwalk_model.specs.Seen.{identity_seen, type_seen}
use Rattle.jwalk_model.specs.Sorting.{arranged, put, stands_before}
use Rattle.jwalk_ignore.specs.Callback.IgnoreFiles.{depth_of}
use Rattle.jwalk_ignore_laws.specs.Deeper.{children_deeper, entry_deeper, failure_deeper, item_deeper}
use Rattle.jwalk_ignore_laws.specs.Walks.{HasName}

-- ---- lists

-- Each element has it.
abbrev pub Each : {X : Type 0} → (X → Type 0) → List X → Type 0
Each has [] = Unit {0}
Each has (x ∷ xs) = has x × Each has xs

pub each_append : {X : Type 0} (has : X → Type 0) (xs ys : List X) → Each has xs → Each has ys → Each has (xs ++ ys)
each_append has [] ys h k = k
each_append has (x ∷ xs) ys h k = (h.0, each_append has xs ys h.1 k)

pub each_filter : {X : Type 0} (has : X → Type 0) (test : X → Bool) (xs : List X) → Each has xs → Each has (filter test xs)
each_filter has test [] h = tt
each_filter has test (x ∷ xs) h = elim (test x) as (λ b. Each has (cond b (x ∷ filter test xs) (filter test xs))) [
  | true ↦ (h.0, each_filter has test xs h.1)
  | false ↦ each_filter has test xs h.1
]

pub each_flat : {X : Type 0} (has : X → Type 0) (parts : X → List X) → ((x : X) → has x → Each has (parts x)) → (xs : List X) → Each has xs → Each has (flat_map parts xs)
each_flat has parts each [] h = tt
each_flat has parts each (x ∷ xs) h = each_append has (parts x) (flat_map parts xs) (each x h.0) (each_flat has parts each xs h.1)

pub each_of_all : {X : Type 0} (has : X → Type 0) (xs : List X) → All has xs → Each has xs
each_of_all has [] h = tt
each_of_all has (x ∷ xs) h = (All-head has x xs h, each_of_all has xs (All-tail has x xs h))

module _ {R E : Type 0} where
  each_put : (has : Item R E → Type 0) (x : Item R E) (xs : List (Item R E)) → has x → Each has xs → Each has (put x xs)
  each_put has x [] h k = (h, tt)
  each_put has x (y ∷ ys) h k =
      elim (stands_before y x) as (λ b. Each has (cond b (y ∷ put x ys) (x ∷ y ∷ ys))) [
        | true ↦ (k.0, each_put has x ys h k.1)
        | false ↦ (h, k)
      ]

  each_arranged : (has : Item R E → Type 0) (xs : List (Item R E)) → Each has xs → Each has (arranged xs)
  each_arranged has [] h = tt
  each_arranged has (x ∷ xs) h = each_put has x (arranged xs) h.0 (each_arranged has xs h.1)

  each_in_order : (has : Item R E → Type 0) (sort : Bool) (xs : List (Item R E)) → Each has xs → Each has (cond sort (arranged xs) xs)
  each_in_order has true xs h = each_arranged has xs h
  each_in_order has false xs h = h

  module _ (levels : ℕ) where
    before_deeper : (x y : Item R E) → stands_before (item_deeper levels x) (item_deeper levels y) ≡ stands_before x y
    before_deeper (Ok x) (Ok y) = refl
    before_deeper (Ok x) (Err f) = refl
    before_deeper (Err f) y = refl

    put_deeper : (x : Item R E) (ys : List (Item R E)) → map (item_deeper levels) (put x ys) ≡ put (item_deeper levels x) (map (item_deeper levels) ys)
    put_deeper x [] = refl
    put_deeper x (y ∷ ys) =
        rw (before_deeper y x)
        (elim (stands_before y x) as (λ b. map (item_deeper levels) (cond b (y ∷ put x ys) (x ∷ y ∷ ys)) ≡ cond b (item_deeper levels y ∷ put (item_deeper levels x) (map (item_deeper levels) ys)) (item_deeper levels x ∷ item_deeper levels y ∷ map (item_deeper levels) ys)) [
          | true ↦ ap (λ (l : List (Item R E)). item_deeper levels y ∷ l) (put_deeper x ys)
          | false ↦ refl
        ])

    arranged_deeper : (l : List (Item R E)) → map (item_deeper levels) (arranged l) ≡ arranged (map (item_deeper levels) l)
    arranged_deeper [] = refl
    arranged_deeper (x ∷ l) = put_deeper x (arranged l) ∙ ap (put (item_deeper levels x)) (arranged_deeper l)

    in_order_deeper : (sort : Bool) (l : List (Item R E)) → map (item_deeper levels) (cond sort (arranged l) l) ≡ cond sort (arranged (map (item_deeper levels) l)) (map (item_deeper levels) l)
    in_order_deeper true l = arranged_deeper l
    in_order_deeper false l = refl

-- ---- directories that follow no links

-- The directory below an entry, if it has one, is where the entry is.
abbrev pub HasChild : {R E : Type 0} → List ℕ → Entry R E → Type 0
HasChild {R} path e = (e.read_children ≡ None) ⊎ (e.read_children ≡ Some (record { path = join path e.file_name; error = None; state = None }))

-- An item is as a walk makes it of a directory at this path, for a list of this depth: it has a name, no links are followed, and its directory is where it is.
abbrev pub IsPlain : {R E : Type 0} → ℕ → List ℕ → Item R E → Type 0
IsPlain depth path (Ok e) = (e.depth ≡ depth) × IsName e.file_name × (e.ancestors ≡ []) × HasChild path e
IsPlain {R} {E} depth path (Err f) = depth_of {R = R} {E = E} (Err f) ≡ depth

not_followed : {R E : Type 0} (job : Job R E) (within : Option Identity) (e : Entry R E) → job.options.follow_links ≡ false → value.followed job within e ≡ Ok e
not_followed job within e no_links = rw no_links refl

module _ {R E : Type 0} (job : Job R E) (no_links : job.options.follow_links ≡ false) where
  child_of : (b : Bool) (path : List ℕ) → (children_at {R = R} b path ≡ None) ⊎ (children_at {R = R} b path ≡ Some (record { path = path; error = None; state = None }))
  child_of true path = inr refl
  child_of false path = inl refl

  plain_entry : (spec : Spec R) (name : List ℕ) (seen : Seen) → IsName name → IsPlain {R = R} {E = E} (spec.depth + 1) spec.path (Ok (value.entry_in job spec name seen))
  plain_entry spec name seen is = (refl, is, rw no_links refl, child_of (value.is_entered (value.within job spec) (type_seen seen) (identity_seen seen)) (join spec.path name))

  plain_shown : (spec : Spec R) (name : List ℕ) (seen : Seen) (b : Bool) → IsName name → Each (IsPlain (spec.depth + 1) spec.path) (cond b [] (value.followed job (value.within job spec) (value.entry_in job spec name seen) ∷ []))
  plain_shown spec name seen true is = tt
  plain_shown spec name seen false is = rw (not_followed job (value.within job spec) (value.entry_in job spec name seen) no_links) (plain_entry spec name seen is, tt)

  plain_named : (spec : Spec R) (n : Named) → IsName n.name → Each (IsPlain (spec.depth + 1) spec.path) (value.named job spec n)
  plain_named spec n is = elim n.seen as (λ t. Each (IsPlain {R = R} {E = E} (spec.depth + 1) spec.path) (either (value.shown job spec n.name) (λ kind. Err (io (spec.depth + 1) (Some (join spec.path n.name)) kind) ∷ []) t)) [
    | Ok seen ↦ plain_shown spec n.name seen (job.options.skip_hidden && is_hidden n.name) is
    | Err kind ↦ (refl, tt)
  ]

  plain_raw : (spec : Spec R) (items : List Listed) → Each HasName items → Each (IsPlain (spec.depth + 1) spec.path) (value.raw job spec items)
  plain_raw spec [] h = tt
  plain_raw spec (Ok n ∷ items) h = each_append (IsPlain (spec.depth + 1) spec.path) (value.named job spec n) (value.raw job spec items) (plain_named spec n h.0) (plain_raw spec items h.1)
  plain_raw spec (Err kind ∷ items) h = (refl, plain_raw spec items h.1)

  -- the list of a directory whose names can be those of components
  pub plain_ordered : (spec : Spec R) (items : List Listed) → Each HasName items → Each (IsPlain (spec.depth + 1) spec.path) (value.ordered job spec items)
  plain_ordered spec items h = each_in_order (IsPlain (spec.depth + 1) spec.path) job.options.sort (value.raw job spec items) (plain_raw spec items h)

  -- ---- the same list at another depth

  module _ (least greatest : ℕ) where
    -- the job with other depths
    abbrev pub between : Job R E
    between = record job { options = record job.options { min_depth = least; max_depth = greatest } }

    module _ (levels : ℕ) (s t : Spec R) (deeper : s.depth ≡ t.depth + levels) (same_path : s.path ≡ t.path) where
      child_deeper : (b : Bool) (path : List ℕ) → children_at {R = R} b path ≡ option_map (children_deeper levels) (children_at b path)
      child_deeper true path = refl
      child_deeper false path = refl

      one_deeper : s.depth + 1 ≡ t.depth + 1 + levels
      one_deeper = omega (arith, deeper)

      entry_deep : (name : List ℕ) (seen : Seen) → value.entry_in job s name seen ≡ entry_deeper levels (value.entry_in between t name seen)
      entry_deep name seen =
          let made = λ (depth : ℕ) (path : List ℕ) (children : Option (Children R)). let e : Entry R E = record (value.entry_in job s name seen) { depth = depth; parent_path = path; ancestors = []; read_children = children } in e in
          rw (no_links, same_path) (ap (λ (depth : ℕ). made depth t.path (children_at (value.is_entered (value.within job t) (type_seen seen) (identity_seen seen)) (join t.path name))) one_deeper
          ∙ ap (made (t.depth + 1 + levels) t.path) (child_deeper (value.is_entered (value.within job t) (type_seen seen) (identity_seen seen)) (join t.path name)))

      error_deep : (name : List ℕ) (kind : ErrorKind) → io (s.depth + 1) (Some (join s.path name)) kind ≡ failure_deeper levels (io (t.depth + 1) (Some (join t.path name)) kind)
      error_deep name kind = rw same_path (ap (λ (depth : ℕ). io depth (Some (join t.path name)) kind) one_deeper)

      shown_deep : (name : List ℕ) (seen : Seen) (b : Bool)
          → cond b [] (value.followed job (value.within job s) (value.entry_in job s name seen) ∷ []) ≡ map (item_deeper levels) (cond b [] (value.followed between (value.within between t) (value.entry_in between t name seen) ∷ []))
      shown_deep name seen true = refl
      shown_deep name seen false =
          let made = λ (e : Entry R E). let list : List (Item R E) = Ok e ∷ [] in list in
          rw (not_followed job (value.within job s) (value.entry_in job s name seen) no_links, not_followed between (value.within between t) (value.entry_in between t name seen) no_links) (ap made (entry_deep name seen))

      named_deep : (n : Named) → value.named job s n ≡ map (item_deeper levels) (value.named between t n)
      named_deep n =
          elim n.seen as (λ o. either (value.shown job s n.name) (λ kind. Err (io (s.depth + 1) (Some (join s.path n.name)) kind) ∷ []) o
          ≡ map (item_deeper levels) (either (value.shown between t n.name) (λ kind. Err (io (t.depth + 1) (Some (join t.path n.name)) kind) ∷ []) o)) [
            | Ok seen ↦ shown_deep n.name seen (job.options.skip_hidden && is_hidden n.name)
            | Err kind ↦ ap (λ (f : Failure). let list : List (Item R E) = Err f ∷ [] in list) (error_deep n.name kind)
          ]

      item_deep : (l : Listed) → value.item_of job s l ≡ map (item_deeper levels) (value.item_of between t l)
      item_deep (Ok n) = named_deep n
      item_deep (Err kind) = rw same_path (ap (λ (depth : ℕ). let list : List (Item R E) = Err (unnamed depth t.path kind) ∷ [] in list) one_deeper)

      raw_deep : (items : List Listed) → value.raw job s items ≡ map (item_deeper levels) (value.raw between t items)
      raw_deep [] = refl
      raw_deep (l ∷ items) =
          rw (item_deep l, raw_deep items) (sym (map-append (item_deeper levels) (value.item_of between t l) (value.raw between t items)))

      -- the list of a directory at another depth
      pub ordered_deep : (items : List Listed) → value.ordered job s items ≡ map (item_deeper levels) (value.ordered between t items)
      ordered_deep items =
          ap (λ (l : List (Item R E)). cond job.options.sort (arranged l) l) (raw_deep items) ∙ sym (in_order_deeper levels job.options.sort (value.raw between t items))

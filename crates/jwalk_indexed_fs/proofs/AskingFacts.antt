-- Listings that are sorted before their names are asked for.
use Rattle.std.proofs.Common.{◌≡◌, ◌∙◌, ℕ, Bool, true, false, List, [], ◌∷◌, Result, Ok, Err, map, refl, ap, ap₂}
use Rattle.std.specs.Prelude.{if◌then◌else◌}
use Rattle.std.specs.declared.io.ErrorKind.{ErrorKind}
use Rattle.jwalk_model.specs.declared.metadata.Metadata.{Metadata}
use Rattle.jwalk_model.specs.declared.seen.Seen.{Seen}
use Rattle.jwalk_model.specs.FileSystem.{Listed, Functions}
use Rattle.jwalk_model.specs.Paths.{join}
use Rattle.jwalk_indexed_fs.specs.Asking.{asked_item, asked_seen}
use Rattle.jwalk_indexed_fs.specs.Listing.{bare, bare_seen, in_order, listed_before, name_before, name_if, name_of, put}

-- listings that are there are the same
pub same_items : {xs ys : List Listed} → ◌≡◌ {A = Result (List Listed) ErrorKind} (Ok xs) (Ok ys) → xs ≡ ys
same_items is = cc

-- an item with its type alone has the same name
name_bare_if : (name : List ℕ) (s : Result Seen ErrorKind) → name_if name (bare_seen s) ≡ name_if name s
name_bare_if name (Ok s) = refl
name_bare_if name (Err kind) = refl

name_bare : (x : Listed) → name_of (bare x) ≡ name_of x
name_bare (Ok n) = name_bare_if n.name n.seen
name_bare (Err kind) = refl

before_bare : (x y : Listed) → listed_before (bare x) (bare y) ≡ listed_before x y
before_bare x y = ap₂ name_before (name_bare x) (name_bare y)

-- so it is put in the same place
put_bare_by : (x y : Listed) (ys : List Listed) (b : Bool) → put (bare x) (map bare ys) ≡ map bare (put x ys) → (if b then bare y ∷ put (bare x) (map bare ys) else bare x ∷ bare y ∷ map bare ys) ≡ map bare (if b then y ∷ put x ys else x ∷ y ∷ ys)
put_bare_by x y ys true same = ap (λ l. bare y ∷ l) same
put_bare_by x y ys false same = refl

put_bare : (x : Listed) (l : List Listed) → put (bare x) (map bare l) ≡ map bare (put x l)
put_bare x [] = refl
put_bare x (y ∷ ys) =
    ap (λ (b : Bool). if b then bare y ∷ put (bare x) (map bare ys) else bare x ∷ bare y ∷ map bare ys) (before_bare y x)
    ∙ put_bare_by x y ys (listed_before y x) (put_bare x ys)

order_bare : (l : List Listed) → in_order (map bare l) ≡ map bare (in_order l)
order_bare [] = refl
order_bare (x ∷ l) = ap (put (bare x)) (order_bare l) ∙ put_bare x (in_order l)

module _ (fs : Functions) (path : List ℕ) where
  abbrev asked : Listed → Listed
  asked = asked_item fs path

  -- what asking returns doesn't depend on what was seen
  seen_bare : (found : Result Metadata ErrorKind) (s : Result Seen ErrorKind) → asked_seen found (bare_seen s) ≡ asked_seen found s
  seen_bare found (Ok s) = refl
  seen_bare found (Err kind) = refl

  asked_bare : (x : Listed) → asked (bare x) ≡ asked x
  asked_bare (Ok n) = ap (λ s. Ok (record n { seen = s })) (seen_bare (fs.link_meta_of (join path n.name)) n.seen)
  asked_bare (Err kind) = refl

  all_bare : (l : List Listed) → map asked (map bare l) ≡ map asked l
  all_bare [] = refl
  all_bare (x ∷ l) = ap₂ (λ a r. a ∷ r) (asked_bare x) (all_bare l)

  -- items that are what asking returns stay so wherever they are put
  first_same : (y : Listed) (ys : List Listed) → map asked (y ∷ ys) ≡ y ∷ ys → asked y ≡ y
  first_same y ys is = cc

  rest_same : (y : Listed) (ys : List Listed) → map asked (y ∷ ys) ≡ y ∷ ys → map asked ys ≡ ys
  rest_same y ys is = cc

  put_same_by : (x y : Listed) (ys : List Listed) (b : Bool) → asked x ≡ x → map asked (y ∷ ys) ≡ y ∷ ys → map asked (put x ys) ≡ put x ys → map asked (if b then y ∷ put x ys else x ∷ y ∷ ys) ≡ (if b then y ∷ put x ys else x ∷ y ∷ ys)
  put_same_by x y ys true is all more = ap₂ (λ a r. a ∷ r) (first_same y ys all) more
  put_same_by x y ys false is all more = ap₂ (λ a r. a ∷ r) is all

  put_asked : (x : Listed) (l : List Listed) → asked x ≡ x → map asked l ≡ l → map asked (put x l) ≡ put x l
  put_asked x [] is all = ap (λ a. a ∷ []) is
  put_asked x (y ∷ ys) is all = put_same_by x y ys (listed_before y x) is all (put_asked x ys is (rest_same y ys all))

  order_asked : (l : List Listed) → map asked l ≡ l → map asked (in_order l) ≡ in_order l
  order_asked [] all = refl
  order_asked (x ∷ l) all = put_asked x (in_order l) (first_same x l all) (order_asked l (rest_same x l all))

  -- asked for in order, with types alone before, a listing that is what asking returns is the same in order
  pub asked_order : (items : List Listed) → map asked items ≡ items → map asked (in_order (map bare items)) ≡ in_order items
  asked_order items all = ap (map asked) (order_bare items) ∙ all_bare (in_order items) ∙ order_asked items all

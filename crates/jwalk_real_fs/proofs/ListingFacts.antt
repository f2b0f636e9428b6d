-- Items that are added to a listing.
use Rattle.std.proofs.Common.{◌≡◌, ◌++◌, ℕ, Bool, true, false, List, [], ◌∷◌, Result, Ok, Err, map, filter, ap, sym, ◌∙◌, append-nil, refl, nat_lt, length, if◌then◌else◌, not, arith, ◌≤◌, ◌+◌}
use Rattle.std.proofs.Math.ListN.{drop_of_length-le}
use Rattle.std.proofs.lemmas.List.{map-append, append_assoc, take_all}
use Rattle.std.proofs.lemmas.List.Elements.{All-append, All-cons, All-nil, filter-append}
use Rattle.std.proofs.lemmas.Bool.{ltb-true, ltb-false}
use Rattle.std.proofs.lemmas.List.Splits.{slice_split_first, slice_split-cons_no}
use Rattle.std.proofs.lemmas.Str.{IsUtf8-from_is_utf8, is_utf8-from_IsUtf8}
use Rattle.std.specs.Str.{is_utf8, IsUtf8}
use Rattle.std.specs.List.{before_first, after_first, position_or_len, slice_split, onto_first}
use Rattle.std.specs.Result.{OnOk}
use Rattle.std.specs.declared.io.ErrorKind.TheVariants.{InvalidFilename}
use Rattle.jwalk_model.specs.FileSystem.{Listed}
use Rattle.jwalk_fs.proofs.SinkFacts.{takes_none, takes_on}
use Rattle.jwalk_fs.specs.Views.{TakesAll}
use Rattle.jwalk_real_fs.specs.Texts.{is_child, is_nul, children}
use Rattle.jwalk_real_fs.specs.Listing.{name_in, told, Adds, TakesEach}

-- a name that is UTF-8 is itself
pub told_is : (name : List ℕ) → IsUtf8 name → told name ≡ Ok name
told_is name h = simp (is_utf8-from_IsUtf8 name h)

by_test : (b : Bool) (name : List ℕ) → is_utf8 name ≡ b → ¬ (IsUtf8 name) → told name ≡ Err InvalidFilename
by_test true name e isnt = absurd (isnt (IsUtf8-from_is_utf8 name e))
by_test false name e isnt = simp e

-- one that isn't is an error
pub told_not : (name : List ℕ) → ¬ (IsUtf8 name) → told name ≡ Err InvalidFilename
told_not name isnt = by_test (is_utf8 name) name refl isnt

module _ {K : Type 0} (took : K → List Listed → K → Type 0) where
  -- what a sink's call may fail at is taken if it doesn't
  pub takes_if : {T E : Type 0} (r : Result T E) (items : List Listed) (x y : K) → ((first : K) (before : List Listed) → took first before x → OnOk r (took first (before ++ items) y)) → OnOk r (TakesAll took items x y)
  takes_if (Ok _) items x y more = more
  takes_if (Err _) items x y more = tt

  -- some items and then others, where the others may fail
  pub takes_on_if : {T E : Type 0} (r : Result T E) (items others : List Listed) (x y z : K) → TakesAll took items x y → OnOk r (TakesAll took others y z) → OnOk r ((all : List Listed) × TakesAll took all x z)
  takes_on_if (Ok _) items others x y z some rest = (items ++ others, takes_on took items others x y z some rest)
  takes_on_if (Err _) items others x y z some rest = tt

module _ {K : Type 0} (holds : Listed → Type 0) (took : K → List Listed → K → Type 0) where
  -- a sink that was given nothing
  pub each_none : (s : K) → TakesEach holds took [] s s
  each_none s = (All-nil holds, takes_none took s)

  -- one item
  pub one_each : (item : Listed) (x y : K) → holds item → TakesAll took (item ∷ []) x y → TakesEach holds took (item ∷ []) x y
  one_each item x y it took_it = (All-cons holds item [] it (All-nil holds), took_it)

  -- some items and then others, of each of which it holds
  pub each_on : (items others : List Listed) (x y z : K) → TakesEach holds took items x y → TakesEach holds took others y z → TakesEach holds took (items ++ others) x z
  each_on items others x y z some rest = (All-append holds items others some.0 rest.0, takes_on took items others x y z some.1 rest.1)

  -- one more item, for a name, where it may fail
  pub adds_one_if : {T E : Type 0} (r : Result T E) (name : List ℕ) (x y : K) (item : Listed) → name_in item ≡ told name → holds item → OnOk r (TakesAll took (item ∷ []) x y) → OnOk r (Adds holds took (name ∷ []) x y)
  adds_one_if (Ok _) name x y item is it more = (item ∷ [], ap (λ n. n ∷ []) is, one_each item x y it more)
  adds_one_if (Err _) name x y item is it more = tt

  -- items for some names and then for others
  pub adds_on : (names others : List (List ℕ)) (x y z : K) → Adds holds took names x y → Adds holds took others y z → Adds holds took (names ++ others) x z
  adds_on names others x y z some rest = (
    some.0 ++ rest.0,
    map-append name_in some.0 rest.0 ∙ ap (λ l. l ++ map name_in rest.0) some.1 ∙ ap (λ l. map told names ++ l) rest.1 ∙ sym (map-append told names others),
    each_on some.0 rest.0 x y z some.2 rest.2,
  )

by_byte : (b : Bool) (c : ℕ) (cs : List ℕ) → is_nul c ≡ b → length (c ∷ cs) ≤ position_or_len is_nul (c ∷ cs) → (length cs ≤ position_or_len is_nul cs → slice_split is_nul cs ≡ cs ∷ []) → slice_split is_nul (c ∷ cs) ≡ (c ∷ cs) ∷ []
by_byte true c cs e most others =
    let here : position_or_len is_nul (c ∷ cs) ≡ 0 = ap (λ t. if not t then 1 + position_or_len is_nul cs else 0) e in
    absurd (omega (arith, here, most))
by_byte false c cs e most others =
    let later : position_or_len is_nul (c ∷ cs) ≡ 1 + position_or_len is_nul cs = ap (λ t. if not t then 1 + position_or_len is_nul cs else 0) e in
    slice_split-cons_no is_nul c cs e ∙ ap (onto_first c) (others (omega (arith, later, most)))

-- names none of which is ended
not_ended : (names : List ℕ) → length names ≤ position_or_len is_nul names → slice_split is_nul names ≡ names ∷ []
not_ended [] most = refl
not_ended (c ∷ cs) most = by_byte (is_nul c) c cs refl most (not_ended cs)

by_end : (b : Bool) (names : List ℕ) → nat_lt (position_or_len is_nul names) (length names) ≡ b → children names ≡ filter is_child (before_first is_nul names ∷ []) ++ children (after_first is_nul names)
by_end true names e =
    ap (filter is_child) (slice_split_first is_nul names 0 (ltb-true (position_or_len is_nul names) (length names) e))
    ∙ filter-append is_child (before_first is_nul names ∷ []) (slice_split is_nul (after_first is_nul names))
by_end false names e =
    let most : length names ≤ position_or_len is_nul names = ltb-false (position_or_len is_nul names) (length names) e in
    let all : before_first is_nul names ≡ names = take_all (position_or_len is_nul names) names most in
    let none : after_first is_nul names ≡ [] = drop_of_length-le names (omega (arith, most)) in
    ap (filter is_child) (not_ended names most)
    ∙ sym (append-nil (filter is_child (names ∷ [])))
    ∙ ap (λ l. filter is_child (l ∷ []) ++ children []) (sym all)
    ∙ ap (λ l. filter is_child (before_first is_nul names ∷ []) ++ children l) (sym none)

-- the names of children are the first name, if it is that of a child, and then those of the others
pub first_child : (names : List ℕ) → children names ≡ filter is_child (before_first is_nul names ∷ []) ++ children (after_first is_nul names)
first_child names = by_end (nat_lt (position_or_len is_nul names) (length names)) names refl

-- a name at the beginning, and the others
pub one_name : (b : Bool) (left name others : List ℕ) → name ≡ before_first is_nul left → others ≡ after_first is_nul left → is_child name ≡ b → children left ≡ (if b then name ∷ [] else []) ++ children others
one_name b left name others name_is others_are test =
    first_child left
    ∙ ap (λ n. filter is_child (n ∷ []) ++ children (after_first is_nul left)) (sym name_is)
    ∙ ap (λ o. filter is_child (name ∷ []) ++ children o) (sym others_are)
    ∙ ap (λ t. (if t then name ∷ [] else []) ++ children others) test

-- the names gone over, with one that is a child's
pub gone_child : (gone : List (List ℕ)) (all left name others : List ℕ) → children all ≡ gone ++ children left → name ≡ before_first is_nul left → others ≡ after_first is_nul left → is_child name ≡ true → children all ≡ (gone ++ name ∷ []) ++ children others
gone_child gone all left name others so_far name_is others_are test =
    so_far
    ∙ ap (λ l. gone ++ l) (one_name true left name others name_is others_are test)
    ∙ sym (append_assoc gone (name ∷ []) (children others))

-- the same with one that isn't
pub gone_other : (gone : List (List ℕ)) (all left name others : List ℕ) → children all ≡ gone ++ children left → name ≡ before_first is_nul left → others ≡ after_first is_nul left → is_child name ≡ false → children all ≡ gone ++ children others
gone_other gone all left name others so_far name_is others_are test =
    so_far ∙ ap (λ l. gone ++ l) (one_name false left name others name_is others_are test)

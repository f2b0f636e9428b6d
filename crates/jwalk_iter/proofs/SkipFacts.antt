-- What is left when the first items that are held are dropped, and what was to come of them.
use Rattle.std.proofs.Common.{◌≡◌, ◌≢◌, ◌∙◌, ◌<◌, ◌≤◌, ◌+◌, ℕ, zero, suc, Bool, true, false, cond, List, [], ◌∷◌, ◌++◌, drop, take, map, length, Option, Some, None, option_to_list, slice_get, ◌-◌, reverse, Result, Ok, Err, inl, inr, refl, sym, ap, ap₂, subst, arith, append_assoc, length-append}
use Rattle.std.specs.List.{prefix_len}
use Rattle.std.specs.Prelude.{All, filter, if◌then◌else◌, IfSome, IfNone, MatchOption, OnOk, OnErr}
use Rattle.std.specs.Result.{is_err}
use Rattle.std.proofs.lemmas.Option.{slice_get_within}
use Rattle.std.proofs.lemmas.List.{map-append}
use Rattle.std.proofs.lemmas.List.Elements.{All-nil, All-cons, All-append, All-head, All-tail}
use Rattle.jwalk_model.specs.Entry.{Item, has_directory, NoDeeper}
use Rattle.jwalk_model.specs.ReadDir.{Spec, Outcome}
use Rattle.jwalk_model.specs.Counted.{Worth}
use Rattle.jwalk_model.specs.Listing.{Pair, nothing, unread, is_answered, answers, listing}
use Rattle.jwalk_model.specs.Held.{pair_up, first_source, after_first, weight, to_come as coming_of}
use Rattle.jwalk_model.proofs.CountedFacts.{counted-has_directory}
use Rattle.jwalk_model.proofs.HeldFacts.{directories, heavy, listing-append}
use Rattle.jwalk_job.specs.declared.error.Error.{Error}
use Rattle.jwalk_job.specs.declared.dir_entry.DirEntry.{DirEntry}
use Rattle.jwalk_job.specs.Entry.{item}
use Rattle.jwalk_job.specs.Given.{Given, counted_item, counted_spec}
use Rattle.jwalk_readings.proofs.StackFacts.{last_first}
use Rattle.jwalk_readings.specs.ReadAhead.{nothing_ahead}
use Rattle.jwalk_readings.specs.Source.{Source}
use Rattle.jwalk_readings.specs.CrewReads.{IsBelow}
use Rattle.jwalk_readings.specs.declared.readings.Readings as Readings
use Rattle.jwalk_iter.specs.declared.entries.Entries.{Entries}
use Rattle.jwalk_iter.specs.declared.skip.Skip.{Skip}
use Rattle.jwalk_iter.specs.Skip.{drops}
use Rattle.jwalk_iter.specs.Entries.{AreBelow, ArePlaced, items_of, skipped, dropped, source_of, unread_of, min_depth_of, max_depth_of, held, held_by, to_come, dropped_to_come, Stays, StaysBehind, DropsFirst, Skips}
use Rattle.jwalk_iter.proofs.AnswerFacts.{held_rest, held_by_rest, sourced_rest, rest_sourced}
use Rattle.jwalk_iter.proofs.PassFacts.{stays_same, stays_on}
use Rattle.jwalk_iter.proofs.ReceivedFacts.{popped}

drop_none : {X : Type 0} (n : ℕ) → ◌≡◌ {A = List X} (drop n []) []
drop_none zero = refl
drop_none (suc n) = refl

drop_on : {X : Type 0} (n m : ℕ) (xs : List X) → drop m (drop n xs) ≡ drop (n + m) xs
drop_on zero m xs = let same : m ≡ 0 + m = omega arith in ap (λ k. drop k xs) same
drop_on (suc n) m [] = drop_none m ∙ sym (drop_none (suc n + m))
drop_on (suc n) m (x ∷ xs) = let same : suc (n + m) ≡ suc n + m = omega arith in drop_on n m xs ∙ ap (λ k. drop k (x ∷ xs)) same

drop_of-map : {X Y : Type 0} (f : X → Y) (n : ℕ) (xs : List X) → map f (drop n xs) ≡ drop n (map f xs)
drop_of-map f zero xs = refl
drop_of-map f (suc n) [] = refl
drop_of-map f (suc n) (x ∷ xs) = drop_of-map f n xs

length_dropped : {X : Type 0} (n m : ℕ) (xs : List X) → length xs ≡ n + m → length (drop n xs) ≡ m
length_dropped zero m xs is = omega (arith, is)
length_dropped (suc n) m [] is = absurd (omega (arith, is))
length_dropped (suc n) m (x ∷ xs) is = length_dropped n m xs (omega (arith, is))

first_taken : {X : Type 0} (xs ys : List X) → take (length xs) (xs ++ ys) ≡ xs
first_taken [] ys = refl
first_taken (x ∷ xs) ys = ap (λ l. x ∷ l) (first_taken xs ys)

first_dropped : {X : Type 0} (xs ys : List X) → drop (length xs) (xs ++ ys) ≡ ys
first_dropped [] ys = refl
first_dropped (x ∷ xs) ys = first_dropped xs ys

both_none : {X : Type 0} (xs ys : List X) → xs ++ ys ≡ [] → (xs ≡ []) × (ys ≡ [])
both_none [] ys none = (refl, none)
both_none (x ∷ xs) ys none = absurd cc

filtered_of : {X : Type 0} (p : X → Bool) (xs ys : List X) → filter p (xs ++ ys) ≡ filter p xs ++ filter p ys
filtered_of p [] ys = refl
filtered_of p (x ∷ xs) ys =
    elim (p x) as (λ b. cond b (x ∷ filter p (xs ++ ys)) (filter p (xs ++ ys)) ≡ cond b (x ∷ filter p xs) (filter p xs) ++ filter p ys) [
      | true ↦ ap (λ l. x ∷ l) (filtered_of p xs ys)
      | false ↦ filtered_of p xs ys
    ]

-- where all of the first pass, they count, and then those behind them
prefix_on : {X : Type 0} (p : X → Bool) (xs ys : List X) → All (λ x. p x ≡ true) xs → prefix_len p (xs ++ ys) ≡ length xs + prefix_len p ys
prefix_on p [] ys all = omega arith
prefix_on p (x ∷ xs) ys all =
    let one : prefix_len p (x ∷ (xs ++ ys)) ≡ 1 + prefix_len p (xs ++ ys) = ap (λ b. cond b (1 + prefix_len p (xs ++ ys)) 0) (All-head (λ y. p y ≡ true) x xs all) in
    omega (arith, one, prefix_on p xs ys (All-tail (λ y. p y ≡ true) x xs all))

prefix_some : {X : Type 0} (p : X → Bool) (xs : List X) → 0 < prefix_len p xs → take (prefix_len p xs) xs ≢ []
prefix_some p [] some = absurd (omega (arith, some))
prefix_some p (x ∷ xs) some =
    elim (p x) as (λ b. 0 < cond b (1 + prefix_len p xs) 0 → take (cond b (1 + prefix_len p xs) 0) (x ∷ xs) ≢ []) [
      | true ↦ λ more none. let same : suc (prefix_len p xs) ≡ 1 + prefix_len p xs = omega arith in let no : x ∷ take (prefix_len p xs) xs ≡ [] = ap (λ k. take k (x ∷ xs)) same ∙ none in cc
      | false ↦ λ more. absurd (omega (arith, more))
    ] some

module _ {R E : Type 0} where
  -- how many directories there are among items
  abbrev many : List (Item R E) → ℕ
  many items = length (filter has_directory items)

  one_behind : (b : Bool) (x : Item R E) (gone rest : List (Item R E)) (specs : List (Spec R)) → ((left : List (Spec R)) → pair_up (gone ++ rest) left ≡ pair_up gone left ++ pair_up rest (drop (many gone) left))
      → ◌≡◌ {A = List (Pair R E)} (record { item = x; source = first_source b specs } ∷ pair_up (gone ++ rest) (after_first b specs)) (record { item = x; source = first_source b specs } ∷ (pair_up gone (after_first b specs) ++ pair_up rest (drop (length (cond b (x ∷ filter has_directory gone) (filter has_directory gone))) specs)))
  one_behind false x gone rest specs h = ap (λ l. record { item = x; source = nothing } ∷ l) (h specs)
  one_behind true x gone rest [] h = ap (λ l. record { item = x; source = nothing } ∷ l) (h [] ∙ ap (λ l. pair_up gone [] ++ pair_up rest l) (drop_none (many gone)))
  one_behind true x gone rest (s ∷ specs) h = ap (λ l. record { item = x; source = unread s } ∷ l) (h specs)

  -- The first items take their directories, and the others those behind them.
  behind : (gone rest : List (Item R E)) (specs : List (Spec R)) → pair_up (gone ++ rest) specs ≡ pair_up gone specs ++ pair_up rest (drop (many gone) specs)
  behind [] rest specs = refl
  behind (x ∷ gone) rest specs = one_behind (has_directory x) x gone rest specs (λ left. behind gone rest left)

  within_behind : (depth : ℕ) (gone rest : List (Item R E)) → NoDeeper depth (gone ++ rest) → NoDeeper depth rest
  within_behind depth [] rest within = within
  within_behind depth (Ok e ∷ gone) rest within = within_behind depth gone rest within.1
  within_behind depth (Err f ∷ gone) rest within = within_behind depth gone rest within

  weight_of : (max_depth : ℕ) (ps qs : List (Pair R E)) → weight max_depth (ps ++ qs) ≡ weight max_depth ps + weight max_depth qs
  weight_of max_depth [] qs = omega arith
  weight_of max_depth (p ∷ ps) qs = omega (arith, weight_of max_depth ps qs)

  below_behind : (below : Item R E → Spec R → Type 0) (ps qs : List (Pair R E)) → AreBelow below (ps ++ qs) → AreBelow below qs
  below_behind below [] qs placed = placed
  below_behind below (p ∷ ps) qs placed = below_behind below ps qs placed.1

  many_and : (gone rest : List (Item R E)) → directories (gone ++ rest) ≡ many gone + directories rest
  many_and [] rest = omega arith
  many_and (x ∷ gone) rest =
      elim (has_directory x) as (λ b. (if b then 1 else 0) + directories (gone ++ rest) ≡ length (cond b (x ∷ filter has_directory gone) (filter has_directory gone)) + directories rest) [
        | true ↦ omega (arith, many_and gone rest)
        | false ↦ omega (arith, many_and gone rest)
      ]

module _ {R E : Type 0} where
  counted_many : (given : Given R E) (items : List (Item R E)) → length (filter has_directory (map (counted_item given) items)) ≡ many items
  counted_many given [] = refl
  counted_many given (x ∷ items) =
      ap (λ b. length (cond b (counted_item given x ∷ filter has_directory (map (counted_item given) items)) (filter has_directory (map (counted_item given) items)))) (counted-has_directory given.read_dir_state given.dir_entry_state x)
      ∙ elim (has_directory x) as (λ b. length (cond b (counted_item given x ∷ filter has_directory (map (counted_item given) items)) (filter has_directory (map (counted_item given) items))) ≡ length (cond b (x ∷ filter has_directory items) (filter has_directory items))) [
        | true ↦ omega (arith, counted_many given items)
        | false ↦ counted_many given items
      ]

  some_held : (max_depth : ℕ) (p : Item R E → Bool) (items : List (Item R E)) (specs : List (Spec R)) → 0 < prefix_len p items → 0 < weight max_depth (pair_up items specs)
  some_held max_depth p [] specs some = absurd (omega (arith, some))
  some_held max_depth p (x ∷ items) specs some = heavy max_depth x items specs

  -- What was to come is what comes of the first items, and then what comes of the others.
  coming_behind : (reading : Spec Worth → Outcome Worth Worth) (min_depth max_depth : ℕ) (given : Given R E) (gone rest : List (Item R E)) (specs : List (Spec R))
      → coming_of reading min_depth max_depth (pair_up (map (counted_item given) (gone ++ rest)) (map (counted_spec given) specs))
      ≡ coming_of reading min_depth max_depth (pair_up (map (counted_item given) gone) (map (counted_spec given) specs)) ++ coming_of reading min_depth max_depth (pair_up (map (counted_item given) rest) (map (counted_spec given) (drop (many gone) specs)))
  coming_behind reading min_depth max_depth given gone rest specs =
      let these = map (counted_item given) gone in
      let those = map (counted_item given) rest in
      let all = map (counted_spec given) specs in
      let left : drop (length (filter has_directory these)) all ≡ map (counted_spec given) (drop (many gone) specs)
      = ap (λ n. drop n all) (counted_many given gone) ∙ sym (drop_of-map (counted_spec given) (many gone) specs) in
      ap (λ l. coming_of reading min_depth max_depth (pair_up l all)) (map-append (counted_item given) gone rest)
      ∙ ap (coming_of reading min_depth max_depth) (behind these those all ∙ ap (λ l. pair_up these all ++ pair_up those l) left)
      ∙ ap (answers min_depth) (listing-append reading max_depth (pair_up these all) (pair_up those (map (counted_spec given) (drop (many gone) specs))))
      ∙ filtered_of (is_answered min_depth) (listing reading max_depth (pair_up these all)) (listing reading max_depth (pair_up those (map (counted_spec given) (drop (many gone) specs))))

pub on_failed : {T F : Type 0} (r : Result T F) (P : Type 0) → is_err r ≡ true → OnErr r P → P
on_failed (Ok x) P failed on = let no : false ≡ true = failed in absurd cc
on_failed (Err e) P failed on = on

pub on_done : {T F : Type 0} (r : Result T F) (P : Type 0) → is_err r ≡ false → OnOk r P → P
on_done (Ok x) P done on = on
on_done (Err e) P done on = let no : true ≡ false = done in absurd cc

first_same : {X : Type 0} (x y : X) (xs ys : List X) → x ∷ xs ≡ y ∷ ys → x ≡ y
first_same x y xs ys is = cc

-- The item that is looked at last is the one that is taken.
module _ {C A R E : Type 0} (skip : Skip) (stack left : List (Result (DirEntry C A R E) (Error A))) (next : Result (DirEntry C A R E) (Error A)) (last : Some next ≡ slice_get stack (length stack - 1)) where
  pub stays_first : drops skip (item next) ≡ false → prefix_len (drops skip) (map item (reverse stack)) ≡ 0
  stays_first stays =
      ap (prefix_len (drops skip)) (last_first item stack next last)
      ∙ ap (λ b. cond b (1 + prefix_len (drops skip) (drop 1 (map item (reverse stack)))) 0) stays

  pub taken_first : (o : Option (Result (DirEntry C A R E) (Error A))) → stack ≡ left ++ option_to_list o → IfSome o (λ x. map item (reverse stack) ≡ item x ∷ map item (reverse left))
  taken_first None is = tt
  taken_first (Some x) is = popped stack left x is

  pub taken_goes : drops skip (item next) ≡ true → (o : Option (Result (DirEntry C A R E) (Error A))) → stack ≡ left ++ option_to_list o → IfSome o (λ x. drops skip (item x) ≡ true)
  taken_goes goes None is = tt
  taken_goes goes (Some x) is =
      ap (drops skip) (first_same (item x) (item next) (map item (reverse left)) (drop 1 (map item (reverse stack))) (sym (popped stack left x is) ∙ last_first item stack next last)) ∙ goes

  pub taken_fewer : (o : Option (Result (DirEntry C A R E) (Error A))) → stack ≡ left ++ option_to_list o → IfSome o (λ x. length left < length stack)
  taken_fewer None is = tt
  taken_fewer (Some x) is = omega (arith, ap length is, length-append left (x ∷ []))

  pub taken_one : (n m : ℕ) → n ≡ length stack → (o : Option (Result (DirEntry C A R E) (Error A))) → MatchOption o ((n ≡ 0) × (m ≡ 0)) (λ x. m + 1 ≡ n) → (P : Type 0) → IfNone o P
  taken_one n m same None none P = absurd (omega (arith, same, none.0, slice_get_within stack (length stack - 1) next (sym last)))
  taken_one n m same (Some x) some P = tt

module _ {C A B R E : Type 0} (readings : Readings.Ghosts B C A R E) where
  pub popped_behind : (old new : Entries C A B R E) → new ≡ record old { items = new.items } → StaysBehind readings old new
  popped_behind old new others = record {
    stays = record {
      base = ap (λ it. readings.base it.reads) others;
      refused = ap (λ it. it.refused) others;
      most = omega (arith, ap (λ it. readings.most it.reads) others);
      steady = λ given steady. subst (λ (it : Entries C A B R E). readings.steady it.reads given) (sym others) steady;
    };
    skip = ap (λ it. it.skip) others;
    ahead = omega (arith, ap (λ it. length (readings.read_ahead it.reads).done) others);
  }

  pub below_behind_too : (old mid : Entries C A B R E) (reads : B) → StaysBehind readings old mid → readings.base reads ≡ readings.base mid.reads → readings.most reads ≤ readings.most mid.reads
      → length (readings.read_ahead reads).done ≤ length (readings.read_ahead mid.reads).done → ((given : Given R E) → readings.steady mid.reads given → readings.steady reads given) → StaysBehind readings old (record mid { reads = reads })
  below_behind_too old mid reads behind base most ahead steady = record {
    stays = record {
      base = base ∙ behind.stays.base;
      refused = behind.stays.refused;
      most = omega (arith, most, behind.stays.most);
      steady = λ given was. steady given (behind.stays.steady given was);
    };
    skip = behind.skip;
    ahead = omega (arith, ahead, behind.ahead);
  }

  -- one item is dropped
  pub one_dropped : (old new : Entries C A B R E) (x : Item R E) → items_of old ≡ x ∷ items_of new → drops old.skip x ≡ true → unread_of readings new ≡ drop (cond (has_directory x) 1 0) (unread_of readings old) → DropsFirst readings old new
  one_dropped old new x first goes left = record {
    gone = x ∷ [];
    items = first;
    each = All-cons (λ y. drops old.skip y ≡ true) x [] goes (All-nil _);
    unread = left ∙ elim (has_directory x) as (λ b. drop (cond b 1 0) (unread_of readings old) ≡ drop (length (cond b (x ∷ []) [])) (unread_of readings old)) [ true ↦ refl | false ↦ refl ];
    unchanged = λ none. absurd cc;
  }

  pub next_goes : (it : Entries C A B R E) (x : Item R E) (rest : List (Item R E)) → items_of it ≡ x ∷ rest → drops it.skip x ≡ true → 0 < prefix_len (drops it.skip) (items_of it)
  next_goes it x rest first goes =
      omega (arith, ap (prefix_len (drops it.skip)) first ∙ ap (λ b. cond b (1 + prefix_len (drops it.skip) rest) 0) goes)

  pub same_behind : (it : Entries C A B R E) → StaysBehind readings it it
  same_behind it = record { stays = stays_same readings it; skip = refl; ahead = omega arith }

  pub behind_on : (old mid new : Entries C A B R E) → StaysBehind readings old mid → StaysBehind readings mid new → StaysBehind readings old new
  behind_on old mid new one more = record { stays = stays_on readings old mid new one.stays more.stays; skip = more.skip ∙ one.skip; ahead = omega (arith, one.ahead, more.ahead) }

  -- What was dropped so far.
  pub record Dropped (old new : Entries C A B R E) : Type 0 where
    pub behind : StaysBehind readings old new
    pub first : DropsFirst readings old new

  pub none_dropped : (it : Entries C A B R E) → Dropped it it
  none_dropped it = record { behind = same_behind it; first = record { gone = []; items = refl; each = All-nil _; unread = refl; unchanged = λ none. refl } }

  pub more_dropped : (old mid new : Entries C A B R E) → Dropped old mid → StaysBehind readings mid new → DropsFirst readings mid new → Dropped old new
  more_dropped old mid new so stays more =
      let one = so.first in
      let Goes : Item R E → Type 0 = λ x. drops old.skip x ≡ true in
      record {
        behind = behind_on old mid new so.behind stays;
        first = record {
          gone = one.gone ++ more.gone;
          items = one.items ∙ ap (λ l. one.gone ++ l) more.items ∙ sym (append_assoc one.gone more.gone (items_of new));
          each = All-append Goes one.gone more.gone one.each (subst (λ s. All (λ x. drops s x ≡ true) more.gone) so.behind.skip more.each);
          unread = more.unread
              ∙ ap (drop (many more.gone)) one.unread
              ∙ drop_on (many one.gone) (many more.gone) (unread_of readings old)
              ∙ ap (λ n. drop n (unread_of readings old)) (sym (ap length (filtered_of has_directory one.gone more.gone) ∙ length-append (filter has_directory one.gone) (filter has_directory more.gone)));
          unchanged = λ none. let both = both_none one.gone more.gone none in more.unchanged both.1 ∙ one.unchanged both.0;
        };
      }

  -- what a skip drops next it dropped from the start
  pub some_dropped : (old mid : Entries C A B R E) → Dropped old mid → 0 < prefix_len (drops mid.skip) (items_of mid) → 0 < prefix_len (drops old.skip) (items_of old)
  some_dropped old mid so some =
      let one = so.first in
      let here : 0 < prefix_len (drops old.skip) (items_of mid) = subst (λ s. 0 < prefix_len (drops s) (items_of mid)) so.behind.skip some in
      omega (arith, ap (prefix_len (drops old.skip)) one.items, prefix_on (drops old.skip) one.gone (items_of mid) one.each, here)

  skipped_is : (it : Entries C A B R E) → it.refused ≡ false → skipped it ≡ prefix_len (drops it.skip) (items_of it)
  skipped_is it began = rw began refl

  skipped_none : (it : Entries C A B R E) → it.refused ≡ true → skipped it ≡ 0
  skipped_none it refused = rw refused refl

  module _ (old new : Entries C A B R E) (began : old.refused ≡ false) (so : StaysBehind readings old new) (first : DropsFirst readings old new) (stops : prefix_len (drops new.skip) (items_of new) ≡ 0) where
    abbrev from : Source R E
    from = source_of readings old

    started : new.refused ≡ false
    started = so.stays.refused ∙ began

    count : skipped old ≡ length first.gone
    count =
        let none : prefix_len (drops old.skip) (items_of new) ≡ 0 = subst (λ s. prefix_len (drops s) (items_of new) ≡ 0) so.skip stops in
        omega (arith, skipped_is old began, ap (prefix_len (drops old.skip)) first.items, prefix_on (drops old.skip) first.gone (items_of new) first.each, none)

    gone_is : dropped old ≡ first.gone
    gone_is = ap₂ (λ n l. take n l) count first.items ∙ first_taken first.gone (items_of new)

    pairs : pair_up (items_of old) (unread_of readings old) ≡ pair_up first.gone (unread_of readings old) ++ pair_up (items_of new) (unread_of readings new)
    pairs =
        ap (λ l. pair_up l (unread_of readings old)) first.items
        ∙ behind first.gone (items_of new) (unread_of readings old)
        ∙ ap (λ l. pair_up first.gone (unread_of readings old) ++ pair_up (items_of new) l) (sym first.unread)

    coming : (given : Given R E) → to_come readings given old ≡ dropped_to_come readings given old ++ to_come readings given new
    coming given =
        let Coming = coming_of (from.reading given) from.options.min_depth from.options.max_depth in
        ap Coming (held_by_rest readings given old began)
        ∙ ap (λ l. Coming (pair_up (map (counted_item given) l) (map (counted_spec given) (unread_of readings old)))) first.items
        ∙ coming_behind (from.reading given) from.options.min_depth from.options.max_depth given first.gone (items_of new) (unread_of readings old)
        ∙ ap₂ (λ l m. l ++ m)
        (ap (λ l. Coming (pair_up (map (counted_item given) l) (map (counted_spec given) (unread_of readings old)))) (sym gone_is))
        (ap (λ l. Coming (pair_up (map (counted_item given) (items_of new)) (map (counted_spec given) l))) (sym first.unread)
        ∙ ap Coming (sym (held_by_rest readings given new started))
        ∙ ap (λ b. coming_of ((readings.source b).reading given) (readings.source b).options.min_depth (readings.source b).options.max_depth (held_by readings given new)) (sym so.stays.base))

    pub skips_done : Skips readings old new
    skips_done =
        let before = held_rest readings old began in
        let after = held_rest readings new started in
        record {
          base = so.stays.base;
          depths = λ within. subst (λ b. NoDeeper (readings.source b).options.max_depth (items_of new)) (sym so.stays.base) (within_behind from.options.max_depth first.gone (items_of new) (subst (NoDeeper from.options.max_depth) first.items within));
          sourced = λ is. rest_sourced readings new started (ap length first.unread ∙ length_dropped (many first.gone) (directories (items_of new)) (unread_of readings old) (sourced_rest readings old began is ∙ ap directories first.items ∙ many_and first.gone (items_of new)));
          lighter =
              let same : weight (max_depth_of readings new) (held readings new) ≡ weight from.options.max_depth (held readings new) = ap (λ b. weight (readings.source b).options.max_depth (held readings new)) so.stays.base in
              omega (arith, same, ap (weight from.options.max_depth) before, ap (weight from.options.max_depth) after, ap (weight from.options.max_depth) pairs, weight_of from.options.max_depth (pair_up first.gone (unread_of readings old)) (pair_up (items_of new) (unread_of readings new)));
          most = so.stays.most;
          ahead = so.ahead;
          placed = λ placed. below_behind IsBelow (pair_up first.gone (unread_of readings old)) (pair_up (items_of new) (unread_of readings new)) (subst (AreBelow IsBelow) pairs placed);
          steady = λ given steady. record {
            reads = so.stays.steady given steady.reads;
            placed = subst (λ b. ArePlaced (readings.source b).below (items_of new) (unread_of readings new)) (sym so.stays.base) (below_behind from.below (pair_up first.gone (unread_of readings old)) (pair_up (items_of new) (unread_of readings new)) (subst (AreBelow from.below) pairs steady.placed));
          };
          drops = inl (record {
            refused = so.stays.refused;
            items = sym (ap₂ (λ n l. drop n l) count first.items ∙ first_dropped first.gone (items_of new));
            unread = first.unread ∙ ap (λ l. drop (many l) (unread_of readings old)) (sym gone_is);
            coming = coming;
          });
          unchanged = λ none. first.unchanged (sym gone_is ∙ none);
          again = ap (λ n. take n (items_of new)) (skipped_is new started ∙ stops);
        }

  -- Where memory ran out at the start, nothing is dropped.
  pub skips_refused : (it : Entries C A B R E) → it.refused ≡ true → Skips readings it it
  skips_refused it refused =
      let none : dropped it ≡ [] = ap (λ n. take n (items_of it)) (skipped_none it refused) in
      record {
        base = refl;
        depths = λ within. within;
        sourced = λ is. is;
        lighter = omega arith;
        most = omega arith;
        ahead = omega arith;
        placed = λ placed. placed;
        steady = λ given steady. steady;
        drops = inl (record {
          refused = refl;
          items = sym (ap (λ n. drop n (items_of it)) (skipped_none it refused));
          unread = sym (ap (λ l. drop (many l) (unread_of readings it)) none);
          coming = λ given. sym (ap (λ l. coming_of ((source_of readings it).reading given) (min_depth_of readings it) (max_depth_of readings it) (pair_up (map (counted_item given) l) (map (counted_spec given) (unread_of readings it))) ++ to_come readings given it) none);
        });
        unchanged = λ nothing. refl;
        again = none;
      }

  -- Where memory runs out, only the error that says so is left.
  pub skips_stopped : (old mid stopped : Entries C A B R E) → old.refused ≡ false → StaysBehind readings old mid → Stays readings mid stopped → 0 < prefix_len (drops old.skip) (items_of old)
      → items_of stopped ≡ [] → unread_of readings stopped ≡ [] → readings.read_ahead stopped.reads ≡ nothing_ahead → Skips readings old (record stopped { refused = true })
  skips_stopped old mid stopped began so stays some none no_unread no_ahead =
      let all = stays_on readings old mid stopped so.stays stays in
      let new : Entries C A B R E = record stopped { refused = true } in
      record {
        base = all.base;
        depths = λ within. rw none tt;
        sourced = λ is. record { each = rw none (refl, tt); unread = rw (no_unread, none) refl };
        lighter = rw none (omega (arith, ap (weight (max_depth_of readings old)) (held_rest readings old began), some_held (max_depth_of readings old) (drops old.skip) (items_of old) (unread_of readings old) some));
        most = all.most;
        ahead = rw no_ahead (omega arith);
        placed = λ placed. rw none tt;
        steady = λ given steady. record { reads = all.steady given steady.reads; placed = rw none tt };
        drops = inr (record { held = rw none refl; nothing_unread = no_unread; nothing_ahead = no_ahead });
        unchanged = λ nothing. absurd (prefix_some (drops old.skip) (items_of old) some (sym (ap (λ n. take n (items_of old)) (skipped_is old began)) ∙ nothing));
        again = refl;
      }

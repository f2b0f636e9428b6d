-- Answers of a walk that are taken one after another.
use Rattle.std.proofs.Common.{◌≡◌, ◌∙◌, Bool, true, false, ◌&&◌, List, [], ◌∷◌, ◌++◌, append-nil, Option, None, Some, Result, map, refl, sym, ap, subst}
use Rattle.std.specs.Prelude.{flat_map}
use Rattle.std.specs.Iterator.{Yields}
use Rattle.std.specs.List.{list_all}
use Rattle.std.proofs.lemmas.Grind.{flat_map-append}
use Rattle.std.proofs.lemmas.List.{map-append}
use Rattle.jwalk_model.specs.Entry.{Item}
use Rattle.jwalk_job.specs.declared.dir_entry.DirEntry.{DirEntry}
use Rattle.jwalk_job.specs.declared.error.Error.{Error}
use Rattle.jwalk_job.specs.Entry.{item}
use Rattle.since_parts.specs.Facts.{seen_of}
use Rattle.since_parts.specs.Found.{found_in, found_one, is_clean, HasAll, HasNone, TakesAll, TakesOne}
use Rattle.since_parts.specs.Listing.{listed_in, listed_one}
use Rattle.since_parts.specs.Tree.{front_in, own_in}
use Rattle.since_parts.specs.declared.found.Found.{Found}
use Rattle.since_parts.specs.declared.tree.Tree.{Tree}

and_and : (a b c : Bool) → ((a && b) && c) ≡ (a && (b && c))
and_and true b c = refl
and_and false b c = refl

and_true : (a : Bool) → (a && true) ≡ a
and_true true = refl
and_true false = refl

-- a test of lists, one behind the other
all_seam : {X : Type 0} (test : X → Bool) (xs ys : List X) → list_all test (xs ++ ys) ≡ (list_all test xs && list_all test ys)
all_seam test [] ys = refl
all_seam test (x ∷ xs) ys = ap (λ b. test x && b) (all_seam test xs ys) ∙ sym (and_and (test x) (list_all test xs) (list_all test ys))

one_called : {S X : Type 0} (steps : S → Option X → S → Type 0) (xs : List X) (x : X) (s t u : S) → Yields steps s xs t → steps t (Some x) u → Yields steps s (xs ++ x ∷ []) u
one_called steps [] x s t u same last = (u, subst (λ k. steps k (Some x) u) (sym same) last, refl)
one_called steps (y ∷ xs) x s t u (j, first, more) last = (j, first, one_called steps xs x j t u more last)

-- what one answer more gives comes behind the others
flat_more : {C A R E Y : Type 0} (one : Item R E → List Y) (xs : List (Result (DirEntry C A R E) (Error A))) (x : Result (DirEntry C A R E) (Error A)) → flat_map one (map item (xs ++ x ∷ [])) ≡ flat_map one (map item xs) ++ one (item x)
flat_more one xs x =
    ap (flat_map one) (map-append item xs (x ∷ []))
    ∙ flat_map-append one (map item xs) (item x ∷ [])
    ∙ ap (λ l. flat_map one (map item xs) ++ l) (append-nil (one (item x)))

module _ {C A I R E : Type 0} (next : I → Option (Result (DirEntry C A R E) (Error A)) → I → Type 0) (tree : Tree) (start : I) where
  -- Calls yielded these so far, and this is what is found of them.
  pub record TakenSoFar (now : I) (found : Found) : Type 0 where
    pub yielded : List (Result (DirEntry C A R E) (Error A))
    pub calls : Yields next start yielded now
    pub has : HasAll tree (map item yielded) found

  -- nothing was yielded yet
  pub none_taken : (found : Found) → HasNone found → TakenSoFar start found
  none_taken found none = record {
    yielded = [];
    calls = refl;
    has = record { found_is = ap (map seen_of) none.entries; listed_is = none.listings; clean_is = none.clean };
  }

  found_more : (xs : List (Result (DirEntry C A R E) (Error A))) (x : Result (DirEntry C A R E) (Error A)) → found_in (front_in tree) (own_in tree) (map item (xs ++ x ∷ [])) ≡ found_in (front_in tree) (own_in tree) (map item xs) ++ found_one (front_in tree) (own_in tree) (item x)
  found_more = flat_more (found_one (front_in tree) (own_in tree))

  listed_more : (xs : List (Result (DirEntry C A R E) (Error A))) (x : Result (DirEntry C A R E) (Error A)) → listed_in tree (map item (xs ++ x ∷ [])) ≡ listed_in tree (map item xs) ++ listed_one tree (item x)
  listed_more = flat_more (listed_one tree)

  clean_more : (xs : List (Result (DirEntry C A R E) (Error A))) (x : Result (DirEntry C A R E) (Error A)) → list_all is_clean (map item (xs ++ x ∷ [])) ≡ (list_all is_clean (map item xs) && is_clean (item x))
  clean_more xs x =
      ap (list_all is_clean) (map-append item xs (x ∷ []))
      ∙ all_seam is_clean (map item xs) (item x ∷ [])
      ∙ ap (λ b. list_all is_clean (map item xs) && b) (and_true (is_clean (item x)))

  -- one more answer
  pub one_taken : (now then : I) (old new : Found) (x : Result (DirEntry C A R E) (Error A)) → TakenSoFar now old → next now (Some x) then → TakesOne tree (item x) old new → TakenSoFar then new
  one_taken now then old new x so_far step takes =
      let xs = so_far.yielded in
      record {
        yielded = xs ++ x ∷ [];
        calls = one_called next xs x start now then so_far.calls step;
        has = record {
          found_is = takes.found ∙ ap (λ l. l ++ found_one (front_in tree) (own_in tree) (item x)) so_far.has.found_is ∙ sym (found_more xs x);
          listed_is = takes.listed ∙ ap (λ l. l ++ listed_one tree (item x)) so_far.has.listed_is ∙ sym (listed_more xs x);
          clean_is = takes.clean ∙ ap (λ b. b && is_clean (item x)) so_far.has.clean_is ∙ sym (clean_more xs x);
        };
      }

  -- the last call
  pub all_taken : (now end : I) (found : Found) → TakenSoFar now found → next now None end → TakesAll next tree start found
  all_taken now end found so_far step = record {
    yielded = so_far.yielded;
    drains = (end, (now, so_far.calls, step));
    has = so_far.has;
  }

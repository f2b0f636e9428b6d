-- The text that is printed for calls, one after another.
use Rattle.std.proofs.Common.{◌≡◌, ◌≢◌, ◌∙◌, ◌⊎◌, ℕ, Bool, true, false, ◌&&◌, List, [], ◌∷◌, ◌++◌, Option, Some, None, Result, map, append_assoc, append-nil, inl, inr, sym, ap, refl, subst}
use Rattle.std.proofs.lemmas.List.{map-append}
use Rattle.std.proofs.lemmas.Grind.{flat_map-append}
use Rattle.std.specs.Iterator.{Drains, Yields}
use Rattle.std.specs.List.{list_all}
use Rattle.std.specs.Io.KnownBytes.{Appends}
use Rattle.jwalk_job.specs.declared.dir_entry.DirEntry.{DirEntry}
use Rattle.jwalk_job.specs.declared.error.Error.{Error}
use Rattle.jwalk_job.specs.Entry.{item}
use Rattle.jwalk_model.specs.Entry.{Item}
use Rattle.seek_words.specs.Sought.{Sought}
use Rattle.seek_words.specs.Layout.{Form}
use Rattle.seek_words.specs.Paint.{asks}
use Rattle.seek_found.specs.Found.{found_line, found_lines, is_clean, IfAsked, PrintsFound}
use Rattle.seek_found.specs.Limit.{left_after, up_to}
use Rattle.seek_found.specs.Prune.{unpruned_behind}
use Rattle.seek_found.proofs.LimitFacts.{left_as_before, left_then, up_to_more, up_to_none}
use Rattle.seek_found.proofs.PruneFacts.{below_all, below_more, next_below, unpruned_is, unpruned_then, unpruned_within}

-- the disk is asked only if this holds, by other names of what is looked for and of the form of lines
pub asked_if : {sought sought' : Sought} {form form' : Form} {fixed fixed' : Type 0} → sought ≡ sought' → form ≡ form' → (fixed' → fixed) → IfAsked fixed' sought' form' → IfAsked fixed sought form
asked_if sought_is form_is fixes known =
    (λ empty. fixes (known.0 (sym (ap (λ (s : Sought). s.wanted.kinds.empty) sought_is) ∙ empty)), λ links. fixes (known.1 (sym (ap (λ (f : Form). asks f.painting) form_is) ∙ links)))

-- one text is written, and then another
pub appends_then : (a b c : Option (List ℕ)) (xs ys : List ℕ) → Appends a b xs → Appends b c ys → Appends a c (xs ++ ys)
appends_then None b c xs ys first second = tt
appends_then (Some ws) None c xs ys first second = absurd first
appends_then (Some ws) (Some vs) None xs ys first second = absurd second
appends_then (Some ws) (Some vs) (Some us) xs ys first second = second ∙ (ap (λ l. l ++ ys) first ∙ append_assoc ws xs ys)

-- nothing is written
pub appends_none : (a : Option (List ℕ)) → Appends a a []
appends_none None = tt
appends_none (Some ws) = sym (append-nil ws)

-- and then nothing more
pub appends_nothing : (a b c : Option (List ℕ)) (xs : List ℕ) → Appends a b xs → Appends b c [] → Appends a c xs
appends_nothing a b c xs first second = subst (λ l. Appends a c l) (append-nil xs) (appends_then a b c xs [] first second)

pub and_true : (b : Bool) → (b && true) ≡ b
and_true true = refl
and_true false = refl

and_and : (a b c : Bool) → ((a && b) && c) ≡ (a && (b && c))
and_and true b c = refl
and_and false b c = refl

-- two lists are clean if both are
pub all_seam : {R E : Type 0} (xs ys : List (Item R E)) → list_all is_clean (xs ++ ys) ≡ (list_all is_clean xs && list_all is_clean ys)
all_seam [] ys = refl
all_seam (x ∷ xs) ys = ap (λ b. is_clean x && b) (all_seam xs ys) ∙ sym (and_and (is_clean x) (list_all is_clean xs) (list_all is_clean ys))

-- one more call
one_called : {S X : Type 0} (steps : S → Option X → S → Type 0) (xs : List X) (x : X) (s t u : S) → Yields steps s xs t → steps t (Some x) u → Yields steps s (xs ++ x ∷ []) u
one_called steps [] x s t u same last = (u, subst (λ k. steps k (Some x) u) (sym same) last, refl)
one_called steps (y ∷ xs) x s t u (j, first, more) last = (j, first, one_called steps xs x j t u more last)

module _ {S C A R E : Type 0} (steps : S → Option (Result (DirEntry C A R E) (Error A)) → S → Type 0) (start : S) (sought : Sought) (form : Form) (left : Option ℕ) where
  -- the answers that count
  abbrev kept_of : List (Result (DirEntry C A R E) (Error A)) → List (Item R E)
  kept_of answered = unpruned_behind sought None (map item answered)

  -- Calls yielded these so far, and none that counts is beyond the limit. The lines of those that are looked for are
  -- printed, and `clean` says whether all that count are clean. `below` is the depth of the last find.
  pub record FoundSoFar (now : S) (left' below : Option ℕ) (old new : Option (List ℕ)) (clean : Bool) : Type 0 where
    pub answered : List (Result (DirEntry C A R E) (Error A))
    pub calls : Yields steps start answered now
    pub behind : below ≡ below_all sought None (map item answered)
    pub within : up_to sought left (kept_of answered) ≡ kept_of answered
    pub limit : left' ≡ left_after sought left (kept_of answered)
    pub lines : Appends old new (found_lines sought form (kept_of answered))
    pub all : clean ≡ list_all is_clean (kept_of answered)

  -- nothing was yielded yet
  pub none_found : (old : Option (List ℕ)) → FoundSoFar start left None old old true
  none_found old = record {
    answered = [];
    calls = refl;
    behind = refl;
    within = up_to_none sought left;
    limit = sym (left_as_before R E sought left);
    lines = appends_none old;
    all = refl;
  }

  -- one more call
  pub one_found : (now next : S) (mid left' above below : Option ℕ) (old some new : Option (List ℕ)) (clean one : Bool) (answer : Result (DirEntry C A R E) (Error A)) → FoundSoFar now mid above old some clean → mid ≢ Some 0 → steps now (Some answer) next
      → Appends some new (found_lines sought form (unpruned_behind sought above (item answer ∷ []))) → left' ≡ left_after sought mid (unpruned_behind sought above (item answer ∷ []))
      → below ≡ next_below sought above (item answer) → one ≡ list_all is_clean (unpruned_behind sought above (item answer ∷ [])) → FoundSoFar next left' below old new (clean && one)
  one_found now next mid left' above below old some new clean one answer so_far more step line less deeper is =
      let before = kept_of so_far.answered in
      let last = unpruned_behind sought above (item answer ∷ []) in
      let items = map-append item so_far.answered (answer ∷ []) in
      let grown : kept_of (so_far.answered ++ answer ∷ []) ≡ before ++ last
      = ap (unpruned_behind sought None) items ∙ unpruned_then sought None (map item so_far.answered) (item answer ∷ [])
      ∙ ap (λ b. before ++ unpruned_behind sought b (item answer ∷ [])) (sym so_far.behind) in
      record {
        answered = so_far.answered ++ answer ∷ [];
        calls = one_called steps so_far.answered answer start now next so_far.calls step;
        behind = deeper ∙ ap (λ b. next_below sought b (item answer)) so_far.behind ∙ sym (below_more sought None (map item so_far.answered) (item answer)) ∙ sym (ap (below_all sought None) items);
        within = subst (λ l. up_to sought left l ≡ l) (sym grown) (up_to_more sought left before last so_far.within
            ∙ ap (λ l. before ++ l) (ap (λ l. up_to sought l last) (sym so_far.limit) ∙ unpruned_within sought mid above (item answer) more));
        limit = less ∙ ap (λ l. left_after sought l last) so_far.limit ∙ sym (left_then sought left before last) ∙ ap (left_after sought left) (sym grown);
        lines = subst (λ l. Appends old new (found_lines sought form l)) (sym grown)
            (rw (flat_map-append (found_line sought form) before last) (appends_then old some new (found_lines sought form before) (found_lines sought form last) so_far.lines line));
        all = ap (λ b. b && one) so_far.all ∙ ap (λ b. list_all is_clean before && b) is ∙ sym (all_seam before last) ∙ ap (list_all is_clean) (sym grown);
      }

  -- no further call
  ended : {now : S} {left' below : Option ℕ} {old new : Option (List ℕ)} {clean : Bool} (so_far : FoundSoFar now left' below old new clean)
      → Drains steps start so_far.answered ⊎ ((left' ≡ Some 0) × ((end : S) × Yields steps start so_far.answered end)) → PrintsFound steps start sought form left left' old new clean
  ended {left'} {old} {new} {clean} so_far calls =
      let same = sym (unpruned_is sought (map item so_far.answered)) in
      record {
        answered = so_far.answered;
        calls = calls;
        within = subst (λ l. up_to sought left l ≡ l) same so_far.within;
        limit = subst (λ l. left' ≡ left_after sought left l) same so_far.limit;
        lines = subst (λ l. Appends old new (found_lines sought form l)) same so_far.lines;
        all = subst (λ l. clean ≡ list_all is_clean l) same so_far.all;
      }

  -- the last call
  pub all_found : (now end : S) (left' below : Option ℕ) (old new : Option (List ℕ)) (clean : Bool) → FoundSoFar now left' below old new clean → steps now None end → PrintsFound steps start sought form left left' old new clean
  all_found now end left' below old new clean so_far step = ended so_far (inl (end, (now, so_far.calls, step)))

  -- no further call, if the limit is reached
  pub enough_found : (now : S) (left' below : Option ℕ) (old new : Option (List ℕ)) (clean : Bool) → FoundSoFar now left' below old new clean → left' ≡ Some 0 → PrintsFound steps start sought form left left' old new clean
  enough_found now left' below old new clean so_far full = ended so_far (inr (full, (now, so_far.calls)))

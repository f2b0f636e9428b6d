-- The text that is printed for the answers below roots, one root after another.
use Rattle.std.proofs.Common.{◌≡◌, ◌⊎◌, ◌∙◌, ℕ, Bool, true, false, ◌≢◌, ◌&&◌, List, [], ◌∷◌, ◌++◌, map, Option, Some, Result, append_assoc, append-nil, inl, inr, ap, ap₂, refl, subst, sym}
use Rattle.std.specs.List.{list_all, list_any}
use Rattle.std.specs.Io.KnownBytes.{Appends, append_known}
use Rattle.std.proofs.lemmas.Grind.{flat_map-append}
use Rattle.jwalk_model.specs.Counted.{Worth}
use Rattle.jwalk_model.specs.Entry.{Item}
use Rattle.jwalk_job.specs.declared.dir_entry.DirEntry.{DirEntry}
use Rattle.jwalk_job.specs.declared.error.Error.{Error}
use Rattle.jwalk_job.specs.Entry.{item}
use Rattle.jwalk_job.specs.Given.{Given, counted_item, counted_list}
use Rattle.seek_words.specs.Sought.{Sought}
use Rattle.seek_words.specs.Layout.{Form}
use Rattle.seek_found.specs.Found.{found_line, found_lines, is_clean}
use Rattle.seek_found.specs.Limit.{is_hit, left_after, up_to}
use Rattle.seek_found.specs.Prune.{unpruned}
use Rattle.seek_found.specs.Roots.{AreBelow, Below, PrintsSuch}
use Rattle.program_parts.proofs.GatheredFacts.{gathered_written}
use Rattle.seek_found.proofs.FoundFacts.{all_seam, appends_none, appends_then}
use Rattle.seek_found.proofs.LimitFacts.{left_as_before, left_then, none_of_one, one_of_one, up_to_more, up_to_none}
use Rattle.seek_found.proofs.WholeFacts.{all_clean, same_after, same_lines, same_unpruned, same_up_to}

module _ {sought : Sought} {form : Form} {left left' : Option ℕ} {old new : Option (List ℕ)} {clean : Bool} where
  -- answers with further facts
  pub printed_such : {are be : List (Item Worth Worth) → Type 0} → ((xs : List (Item Worth Worth)) → are xs → be xs) → PrintsSuch are sought form left left' old new clean → PrintsSuch be sought form left left' old new clean
  printed_such more printed = record {
    answers = printed.answers;
    such = more printed.answers printed.such;
    within = printed.within;
    limit = printed.limit;
    lines = printed.lines;
    all = printed.all;
  }

  -- the same, with other facts of what is looked for
  pub such_printed_by : {are : List (Item Worth Worth) → Type 0} {sought' : Sought} {form' : Form} {left'' : Option ℕ} → sought ≡ sought' → form ≡ form' → left ≡ left'' → PrintsSuch are sought form left left' old new clean → PrintsSuch are sought' form' left'' left' old new clean
  such_printed_by {are} {sought'} {form'} sought_is form_is left_is printed =
      subst (λ (l : Option ℕ). PrintsSuch are sought' form' l left' old new clean) left_is
      (subst (λ (s : Form). PrintsSuch are sought' s left left' old new clean) form_is (subst (λ (s : Sought). PrintsSuch are s form left left' old new clean) sought_is printed))

module _ {are : List (Item Worth Worth) → Type 0} {sought : Sought} {form : Form} {left left' : Option ℕ} {old new : Option (List ℕ)} {clean : Bool} where
  -- one was found if and only if a limit of one is reached
  pub found_if_full : (printed : PrintsSuch are sought form left left' old new clean) → left ≡ Some 1 → (full : Bool) → (full ≡ true → left' ≡ Some 0) → (full ≡ false → left' ≢ Some 0) → list_any (is_hit sought) printed.answers ≡ full
  found_if_full printed one true reached room = one_of_one sought printed.answers one printed.limit (reached refl)
  found_if_full printed one false reached room = none_of_one sought printed.answers one printed.limit (room refl)

-- the text that is printed for answers is printed for what they count as
pub counted_printed : {C A R E : Type 0} (given : Given R E) (are : List (Item Worth Worth) → Type 0) (sought : Sought) (form : Form) (left left' : Option ℕ) (old new : Option (List ℕ)) (clean : Bool) (xs : List (Result (DirEntry C A R E) (Error A)))
    → are (unpruned sought (counted_list given xs)) → up_to sought left (unpruned sought (map item xs)) ≡ unpruned sought (map item xs) → left' ≡ left_after sought left (unpruned sought (map item xs))
    → Appends old new (found_lines sought form (unpruned sought (map item xs))) → clean ≡ list_all is_clean (unpruned sought (map item xs)) → PrintsSuch are sought form left left' old new clean
counted_printed given are sought form left left' old new clean xs such within limit lines all =
    let kept = unpruned sought (map item xs) in
    record {
      answers = map (counted_item given) kept;
      such = subst are (same_unpruned given sought (map item xs)) such;
      within = same_up_to given sought left kept ∙ ap (map (counted_item given)) within;
      limit = limit ∙ sym (same_after given sought left kept);
      lines = subst (λ l. Appends old new l) (sym (same_lines given sought form kept)) lines;
      all = all ∙ sym (all_clean given kept);
    }

-- gathered lines that are written at the end
pub such_written_last : {are : List (Item Worth Worth) → Type 0} {sought : Sought} {form : Form} {left left' : Option ℕ} {clean : Bool} (old mid new : Option (List ℕ)) (none last : List ℕ) → none ≡ []
    → PrintsSuch are sought form left left' (append_known old none) (append_known mid last) clean → Appends mid new last → PrintsSuch are sought form left left' old new clean
such_written_last {sought} {form} old mid new none last empty printed rest = record {
  answers = printed.answers;
  such = printed.such;
  within = printed.within;
  limit = printed.limit;
  lines = gathered_written old mid new none last (found_lines sought form printed.answers) empty printed.lines rest;
  all = printed.all;
}

-- if the search may not stop, all answers are there
all_there : (below : Below) (may_stop : Type 0) (roots : List (List ℕ)) (xs : List (Item Worth Worth)) → ¬ may_stop → AreBelow below may_stop roots xs → AreBelow below ⊥ roots xs
unfolding AreBelow
all_there below may_stop [] xs on are = are
all_there below may_stop (root ∷ roots) xs on (inl (first, (rest, own, more, is))) = inl (first, (rest, own, all_there below may_stop roots rest on more, is))
all_there below may_stop (root ∷ roots) xs on (inr (stops, last)) = absurd (on stops)

module _ (below : Below) (may_stop : Type 0) where
  -- all answers below roots, and then those below other roots
  more_roots : (roots others : List (List ℕ)) (xs ys : List (Item Worth Worth)) → AreBelow below ⊥ roots xs → AreBelow below may_stop others ys → AreBelow below may_stop (roots ++ others) (xs ++ ys)
  unfolding AreBelow
  more_roots [] others xs ys none more = subst (λ l. AreBelow below may_stop others (l ++ ys)) (sym none) more
  more_roots (root ∷ roots) others xs ys (inl (first, (rest, own, so_far, is))) more =
      inl (first, (rest ++ ys, own, more_roots roots others rest ys so_far more, ap (λ l. l ++ ys) is ∙ append_assoc first rest ys))
  more_roots (root ∷ roots) others xs ys (inr (stops, last)) more = absurd stops

  -- if the search stopped, other roots aren't searched
  stopped : (roots others : List (List ℕ)) (xs : List (Item Worth Worth)) → may_stop → AreBelow below may_stop roots xs → AreBelow below may_stop (roots ++ others) xs
  unfolding AreBelow
  stopped [] [] xs stops are = are
  stopped [] (other ∷ others) xs stops are = inr (stops, inl are)
  stopped (root ∷ roots) others xs stops (inl (first, (rest, own, more, is))) = inl (first, (rest, own, stopped roots others rest stops more, is))
  stopped (root ∷ roots) others xs stops (inr last) = inr last

  -- the answers below one root
  pub one_root : (root : List ℕ) (xs : List (Item Worth Worth)) → below ⊥ root xs ⊎ (may_stop × below may_stop root xs) → AreBelow below may_stop (root ∷ []) xs
  unfolding AreBelow
  one_root root xs (inl own) = inl (xs, ([], own, refl, sym (append-nil xs)))
  one_root root xs (inr (stops, own)) = inr (stops, inr own)

  -- nothing is printed for no roots
  pub no_roots_printed : (sought : Sought) (form : Form) (left : Option ℕ) (old : Option (List ℕ)) → PrintsSuch (AreBelow below may_stop []) sought form left left old old true
  unfolding AreBelow
  no_roots_printed sought form left old = record {
    answers = [];
    such = refl;
    within = up_to_none sought left;
    limit = sym (left_as_before Worth Worth sought left);
    lines = appends_none old;
    all = refl;
  }

  -- the text that is printed for roots, if the search stops there
  pub roots_stopped : {sought : Sought} {form : Form} {left left' : Option ℕ} {old new : Option (List ℕ)} {clean : Bool} (roots others : List (List ℕ)) → may_stop
      → PrintsSuch (AreBelow below may_stop roots) sought form left left' old new clean → PrintsSuch (AreBelow below may_stop (roots ++ others)) sought form left left' old new clean
  roots_stopped roots others stops printed = printed_such (λ xs. stopped roots others xs stops) printed

  -- the text that is printed for roots, and then for other roots
  pub roots_printed : {stops : Type 0} {sought sought' : Sought} {form form' : Form} (roots others : List (List ℕ)) (left mid left' : Option ℕ) (a b c : Option (List ℕ)) (clean more : Bool) → ¬ stops → sought' ≡ sought → form' ≡ form
      → PrintsSuch (AreBelow below stops roots) sought form left mid a b clean → PrintsSuch (AreBelow below may_stop others) sought' form' mid left' b c more → PrintsSuch (AreBelow below may_stop (roots ++ others)) sought form left left' a c (clean && more)
  roots_printed {stops} {sought} {form} roots others left mid left' a b c clean more on sought_is form_is before after =
      let rest = such_printed_by sought_is form_is refl after in
      let seam = ap (λ l. up_to sought l rest.answers) (sym before.limit) in
      record {
        answers = before.answers ++ rest.answers;
        such = more_roots roots others before.answers rest.answers (all_there below stops roots before.answers on before.such) rest.such;
        within = up_to_more sought left before.answers rest.answers before.within ∙ ap (λ l. before.answers ++ l) (seam ∙ rest.within);
        limit = rest.limit ∙ ap (λ l. left_after sought l rest.answers) before.limit ∙ sym (left_then sought left before.answers rest.answers);
        lines = rw (flat_map-append (found_line sought form) before.answers rest.answers) (appends_then a b c (found_lines sought form before.answers) (found_lines sought form rest.answers) before.lines rest.lines);
        all = ap₂ (λ p q. p && q) before.all rest.all ∙ sym (all_seam before.answers rest.answers);
      }

-- a search that may stop may also stop for a weaker cause
pub may_stop_sooner : (below : Below) (may_stop other : Type 0) → (may_stop → other) → ((root : List ℕ) (xs : List (Item Worth Worth)) → below may_stop root xs → below other root xs)
    → (roots : List (List ℕ)) (xs : List (Item Worth Worth)) → AreBelow below may_stop roots xs → AreBelow below other roots xs
unfolding AreBelow
may_stop_sooner below may_stop other more each [] xs are = are
may_stop_sooner below may_stop other more each (root ∷ roots) xs (inl (first, (rest, own, are, is))) = inl (first, (rest, own, may_stop_sooner below may_stop other more each roots rest are, is))
may_stop_sooner below may_stop other more each (root ∷ roots) xs (inr (stops, inl none)) = inr (more stops, inl none)
may_stop_sooner below may_stop other more each (root ∷ roots) xs (inr (stops, inr last)) = inr (more stops, inr (each root xs last))

-- the answers below roots, by weaker facts of those below each
pub are_below : (below other : Below) (may_stop : Type 0) → ((stop : Type 0) (root : List ℕ) (xs : List (Item Worth Worth)) → below stop root xs → other stop root xs)
    → (roots : List (List ℕ)) (xs : List (Item Worth Worth)) → AreBelow below may_stop roots xs → AreBelow other may_stop roots xs
unfolding AreBelow
are_below below other may_stop each [] xs are = are
are_below below other may_stop each (root ∷ roots) xs (inl (first, (rest, own, are, is))) = inl (first, (rest, each ⊥ root first own, are_below below other may_stop each roots rest are, is))
are_below below other may_stop each (root ∷ roots) xs (inr (stops, inl none)) = inr (stops, inl none)
are_below below other may_stop each (root ∷ roots) xs (inr (stops, inr last)) = inr (stops, inr (each may_stop root xs last))

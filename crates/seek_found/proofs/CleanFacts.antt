-- The text that is printed for answers, one list after another.
use Rattle.std.proofs.Common.{◌≡◌, ◌∙◌, ℕ, ◌&&◌, List, [], ◌++◌, Option, ap, ap₂, refl, subst, sym}
use Rattle.std.specs.List.{list_all}
use Rattle.std.specs.Io.KnownBytes.{Appends}
use Rattle.std.proofs.lemmas.Grind.{flat_map-append}
use Rattle.jwalk_model.specs.Entry.{Item}
use Rattle.seek_words.specs.Sought.{Sought}
use Rattle.seek_words.specs.Layout.{Form}
use Rattle.seek_found.specs.Found.{found_line, found_lines, is_clean, PrintsClean}
use Rattle.seek_found.proofs.FoundFacts.{all_seam, appends_then, appends_none}

module _ {R E : Type 0} (sought : Sought) (form : Form) where
  -- no answers
  pub clean_none : (old : Option (List ℕ)) → PrintsClean {R = R} {E = E} [] sought form old old
  clean_none old = record { lines = appends_none old; clean = refl }

  -- answers after others
  pub clean_then : (xs ys : List (Item R E)) (a b c : Option (List ℕ)) → PrintsClean xs sought form a b → PrintsClean ys sought form b c → PrintsClean (xs ++ ys) sought form a c
  clean_then xs ys a b c first second = record {
    lines = rw (flat_map-append (found_line sought form) xs ys) (appends_then a b c (found_lines sought form xs) (found_lines sought form ys) first.lines second.lines);
    clean = all_seam xs ys ∙ ap₂ (λ p q. p && q) first.clean second.clean;
  }

-- the same answers
pub printed_as : {R E : Type 0} {xs ys : List (Item R E)} {sought : Sought} {form : Form} {old new : Option (List ℕ)} → xs ≡ ys → PrintsClean xs sought form old new → PrintsClean ys sought form old new
printed_as {xs} {ys} {sought} {form} {old} {new} is printed = record {
  lines = subst (λ l. Appends old new (found_lines sought form l)) is printed.lines;
  clean = ap (list_all is_clean) (sym is) ∙ printed.clean;
}

-- The laws on differences.
use Rattle.std.proofs.Common.{◌≡◌, Bool, true, false, List, [], ◌∷◌, ◌++◌, refl, sym, ap, ◌∙◌}
use Rattle.std.specs.List.{AllByRecursion}
use Rattle.std.specs.Option.{option_to_list}
use Rattle.jwalk_changes.specs.declared.facts.Facts.{Facts}
use Rattle.jwalk_changes.specs.declared.change.Change.{Change}
use Rattle.jwalk_changes.specs.declared.change.Change.TheVariants.{Added, Removed}
use Rattle.jwalk_changes.specs.AtPath.{is_before, is_same}
use Rattle.jwalk_changes.specs.Change.{change}
use Rattle.jwalk_changes.specs.Differences.{Ascends, is_within, IsDifferences}
use Rattle.jwalk_changes.specs.Laws.{DifferencesExist}
use Rattle.jwalk_changes.proofs.OrderFacts.{Path, same_path, not_before}
use Rattle.jwalk_changes.proofs.ListFacts.{before_all}
use Rattle.jwalk_changes.proofs.DiffFacts.{add_removed, add_added, add_both, skip_old, skip_new, none_differ}

module _ {O N U : Type 0} (op : O → Path) (of : O → Facts) (np : N → Path) (nf : N → Facts) (place : U → Path) where
  Have : List O → List N → List U → Type 0
  Have lo ln lu = (d : List (Change O N)) × IsDifferences op of np nf place lo ln lu d

  have_removed : (w : Bool) (e : O) (lo : List O) (ln : List N) (lu : List U) → is_within place lu (op e) ≡ w → Ascends op (e ∷ lo) → AllByRecursion (λ y. is_before (op e) (np y) ≡ true) ln → Have lo ln lu → Have (e ∷ lo) ln lu
  unfolding Have
  have_removed true e lo ln lu within olds news (d, is) = (d, skip_old op of np nf place e lo ln lu d within is)
  have_removed false e lo ln lu within olds news (d, is) = (Removed e ∷ d, add_removed op of np nf place e lo ln lu d olds news within is)

  have_added : (w : Bool) (f : N) (lo : List O) (ln : List N) (lu : List U) → is_within place lu (np f) ≡ w → Ascends np (f ∷ ln) → AllByRecursion (λ x. is_before (np f) (op x) ≡ true) lo → Have lo ln lu → Have lo (f ∷ ln) lu
  unfolding Have
  have_added true f lo ln lu within news olds (d, is) = (d, skip_new op of np nf place f lo ln lu d within is)
  have_added false f lo ln lu within news olds (d, is) = (Added f ∷ d, add_added op of np nf place f lo ln lu d news olds within is)

  have_both : (w : Bool) (e : O) (f : N) (lo : List O) (ln : List N) (lu : List U) → is_within place lu (op e) ≡ w → op e ≡ np f → Ascends op (e ∷ lo) → Ascends np (f ∷ ln) → Have lo ln lu → Have (e ∷ lo) (f ∷ ln) lu
  unfolding Have
  have_both true e f lo ln lu within one olds news (d, is) =
      (d, skip_old op of np nf place e lo (f ∷ ln) lu d within (skip_new op of np nf place f lo ln lu d (ap (is_within place lu) (sym one) ∙ within) is))
  have_both false e f lo ln lu within one olds news (d, is) = (option_to_list (change of nf e f) ++ d, add_both op of np nf place e f lo ln lu d one olds news within is)

  -- which of two entries is the first
  have_by : (b s : Bool) (e : O) (f : N) (lo : List O) (ln : List N) (lu : List U) → is_before (op e) (np f) ≡ b → is_same (op e) (np f) ≡ s → Ascends op (e ∷ lo) → Ascends np (f ∷ ln)
      → Have lo (f ∷ ln) lu → Have (e ∷ lo) ln lu → Have lo ln lu → Have (e ∷ lo) (f ∷ ln) lu
  have_by true s e f lo ln lu before same olds news old new both = have_removed (is_within place lu (op e)) e lo (f ∷ ln) lu refl olds (before_all np (op e) f ln before news) old
  have_by false true e f lo ln lu before same olds news old new both = have_both (is_within place lu (op e)) e f lo ln lu refl (same_path (op e) (np f) same) olds news both
  have_by false false e f lo ln lu before same olds news old new both =
      have_added (is_within place lu (np f)) f (e ∷ lo) ln lu refl news (before_all op (np f) e lo (not_before (op e) (np f) before same) olds) new

  have_none : (lu : List U) → Have [] [] lu
  unfolding Have
  have_none lu = ([], none_differ op of np nf place lu)

  have_only_new : (ln : List N) (lu : List U) → Ascends np ln → Have [] ln lu
  have_only_new [] lu news = have_none lu
  have_only_new (f ∷ ln) lu news = have_added (is_within place lu (np f)) f [] ln lu refl news tt (have_only_new ln lu news.1)

  have_with : (e : O) (lo : List O) (ln : List N) (lu : List U) → Ascends op (e ∷ lo) → Ascends np ln → ((l : List N) → Ascends np l → Have lo l lu) → Have (e ∷ lo) ln lu
  have_with e lo [] lu olds news on = have_removed (is_within place lu (op e)) e lo [] lu refl olds tt (on [] tt)
  have_with e lo (f ∷ ln) lu olds news on = have_by (is_before (op e) (np f)) (is_same (op e) (np f)) e f lo ln lu refl refl olds news (on (f ∷ ln) news) (have_with e lo ln lu olds news.1 on) (on ln news.1)

  have : (lo : List O) (ln : List N) (lu : List U) → Ascends op lo → Ascends np ln → Have lo ln lu
  have [] ln lu olds news = have_only_new ln lu news
  have (e ∷ lo) ln lu olds news = have_with e lo ln lu olds news (λ l all. have lo l lu olds.1 all)

  pub differences_exist : DifferencesExist op of np nf place
  unfolding Have
  differences_exist old new unknown olds news = have old new unknown olds news

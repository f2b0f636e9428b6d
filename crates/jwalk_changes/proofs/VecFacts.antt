-- Iterators of which all items are known.
use Rattle.std.proofs.Common.{◌≡◌, List, [], ◌∷◌, map, take, drop, length, Option, None, refl, sym, ap, ◌∙◌, subst}
use Rattle.std.specs.Iterator.{Drains}
use Rattle.std.proofs.lemmas.Iterator.{YieldsList}
use Rattle.std.proofs.lemmas.Iterator.Consumers.{YieldsList-so_far, YieldsList-end}
use Rattle.std.proofs.Math.ListN.{take-append-drop}
use Rattle.jwalk_changes.specs.declared.facts.Facts.{Facts}
use Rattle.jwalk_changes.specs.declared.change.Change.{Change}
use Rattle.jwalk_changes.specs.declared.change.NotAscending.TheVariants.{Old, New, Unknown}
use Rattle.jwalk_changes.specs.declared.change.ChangesError.{ChangesError}
use Rattle.jwalk_changes.specs.declared.change.ChangesError.TheVariants.{NotAscending, Memory}
use Rattle.jwalk_changes.specs.Differences.{Ascends, IsDifferences}
use Rattle.jwalk_changes.specs.Whole.{ComparesAll, DoesNotAscend, IsTrueOfError, IsTrueOfLists}
use Rattle.jwalk_changes.proofs.OrderFacts.{Path}
use Rattle.jwalk_changes.proofs.ListFacts.{ascends_front}

same_list : {X : Type 0} (xs : List X) → map (λ y. y) xs ≡ xs
same_list [] = refl
same_list (x ∷ xs) = ap (λ l. x ∷ l) (same_list xs)

module _ {I X : Type 0} {next : I → Option X → I → Type 0} {items : I} {all : List X} (known : YieldsList next (λ y. y) items all) where
  drained : (xs : List X) → Drains next items xs → xs ≡ all
  drained xs (u, (t, calls, step)) = sym (same_list xs) ∙ (YieldsList-end known xs t calls None u refl step).0

  doesnt : (path : X → Path) → DoesNotAscend next path items → Ascends path all → ⊥
  doesnt path (end, taken, calls, not) ascend =
      let first : taken ≡ take (length taken) all = sym (same_list taken) ∙ YieldsList-so_far known taken end calls in
      not (subst (Ascends path) (sym first) (ascends_front path (take (length taken) all) (drop (length taken) all) (subst (Ascends path) (sym (take-append-drop (length taken) all)) ascend)))

module _ {I J K O N U : Type 0} {ni : I → Option O → I → Type 0} {nj : J → Option N → J → Type 0} {nk : K → Option U → K → Type 0}
    (op : O → Path) (of : O → Facts) (np : N → Path) (nf : N → Facts) (place : U → Path) {i : I} {j : J} {k : K} {olds : List O} {news : List N} {places : List U}
    (io : YieldsList ni (λ y. y) i olds) (jn : YieldsList nj (λ y. y) j news) (ku : YieldsList nk (λ y. y) k places) where
  pub differences_of : (d : List (Change O N)) → ComparesAll ni nj nk op of np nf place i j k d → IsDifferences op of np nf place olds news places d
  differences_of d all =
      subst (λ (l : List O). IsDifferences op of np nf place l news places d) (drained io all.olds all.old_yields)
      (subst (λ (l : List N). IsDifferences op of np nf place all.olds l places d) (drained jn all.news all.new_yields)
      (subst (λ (l : List U). IsDifferences op of np nf place all.olds all.news l d) (drained ku all.places all.unknown_yields) all.differences))

  pub error_of : (e : ChangesError) → IsTrueOfError ni nj nk op of np nf place i j k e → IsTrueOfLists op np place olds news places e
  error_of (NotAscending Old) is = doesnt io op is
  error_of (NotAscending New) is = doesnt jn np is
  error_of (NotAscending Unknown) is = doesnt ku place is
  error_of Memory is = tt

-- Each directory that is to be read is paired with the item that it is below, whatever is passed, over any source.
use Rattle.std.proofs.Common.{◌≡◌, Bool, true, false, List, [], ◌∷◌, ◌++◌, append-nil, Option, Some, None, option_to_list, Ok, Err, refl, sym, subst}
use Rattle.std.specs.Prelude.{flat_map, is_some, option_map}
use Rattle.jwalk_model.specs.Entry.{Entry, Item, Children, has_directory}
use Rattle.jwalk_model.specs.ReadDir.{Spec, Reading, Outcome, spec_of, spec_below, children, children_of, list_of, IsClone, AreClones}
use Rattle.jwalk_model.specs.Listing.{Pair, Source as DirectorySource, nothing, unread, was_read}
use Rattle.jwalk_model.specs.Held.{first_source, after_first, is_plain, pair_up}
use Rattle.jwalk_model.specs.Options.{Options}
use Rattle.jwalk_readings.specs.SourceFacts.{found_there}
use Rattle.jwalk_readings.specs.CrewReads.{IsBelow}
use Rattle.jwalk_iter.specs.Step.{PassesNext, passed_plainly, passed_entering, LeavesOut, none_left_out, one_left_out, ReadsUpTo}
use Rattle.jwalk_iter.specs.Entries.{IsSourceBelow, AreBelow, ArePlaced}

-- where every directory is below every item, each is placed
each_below : {R E : Type 0} (below : Item R E → Spec R → Type 0) → ((x : Item R E) (s : Spec R) → below x s) → (x : Item R E) (from : DirectorySource R E) → IsSourceBelow below x from
each_below below all x nothing = tt
each_below below all x (unread spec) = all x spec
each_below below all x (was_read spec outcome) = all x spec

all_below : {R E : Type 0} (below : Item R E → Spec R → Type 0) → ((x : Item R E) (s : Spec R) → below x s) → (held : List (Pair R E)) → AreBelow below held
all_below below all [] = tt
all_below below all (p ∷ held) = (each_below below all p.item p.source, all_below below all held)

pub all_placed : {R E : Type 0} (below : Item R E → Spec R → Type 0) → ((x : Item R E) (s : Spec R) → below x s) → (items : List (Item R E)) (specs : List (Spec R)) → ArePlaced below items specs
all_placed below all items specs = all_below below all (pair_up items specs)

module _ {R E : Type 0} (copies : R → R → Type 0) (below : Item R E → Spec R → Type 0) (found_below : (e : Entry R E) (c : Children R) (state : R) (made : Spec R) → e.read_children ≡ Some c → IsClone copies (spec_below state e c) made → below (Ok e) made) where
  abbrev Placed : Bool → Item R E → List (Item R E) → List (Spec R) → Type 0
  Placed b x items specs = IsSourceBelow below x (first_source b specs) × AreBelow below (pair_up items (after_first b specs))

  -- behind an item that has no directory, the same are to be read
  behind_plain : (b : Bool) (x : Item R E) (items : List (Item R E)) (specs : List (Spec R)) → is_plain (first_source {R = R} {E = E} b specs) ≡ true → Placed b x items specs → AreBelow below (pair_up items specs)
  behind_plain false x items specs plain placed = placed.1
  behind_plain true x items [] plain placed = placed.1
  behind_plain true x items (s ∷ specs) plain placed = let no : false ≡ true = plain in absurd cc

  -- behind one that has one, all but the first
  behind_directory : (b : Bool) (x : Item R E) (items : List (Item R E)) (first : Spec R) (rest : List (Spec R)) → b ≡ true → Placed b x items (first ∷ rest) → AreBelow below (pair_up items rest)
  behind_directory true x items first rest has placed = placed.1
  behind_directory false x items first rest has placed = absurd cc

  -- the first that is to be read is the one below it
  next_below : (b : Bool) (x : Item R E) (items : List (Item R E)) (first : Spec R) (rest : List (Spec R)) → b ≡ true → Placed b x items (first ∷ rest) → below x first
  next_below true x items first rest has placed = placed.0
  next_below false x items first rest has placed = absurd cc

  abbrev found : R → List (Item R E) → List (Spec R)
  found state l = flat_map (λ x. option_to_list (spec_of state x)) l

  one_received : (state : R) (e : Entry R E) (o : Option (Children R)) (items : List (Item R E)) (specs others front : List (Spec R)) → e.read_children ≡ o → AreClones copies (option_to_list (option_map (spec_below state e) o) ++ others) front
      → ((left : List (Spec R)) → AreClones copies others left → AreBelow below (pair_up items (left ++ specs))) → Placed (is_some o) (Ok e) items (front ++ specs)
  one_received state e None items specs others front same clones rest = (tt, rest front clones)
  one_received state e (Some c) items specs others [] same clones rest = absurd clones
  one_received state e (Some c) items specs others (made ∷ front) same clones rest = (found_below e c state made same clones.0, rest front clones.1)

  -- a list that was read is put in front, with clones of the directories that were found in it
  received : (state : R) (l items : List (Item R E)) (specs front : List (Spec R)) → AreClones copies (found state l) front → AreBelow below (pair_up items specs) → AreBelow below (pair_up (l ++ items) (front ++ specs))
  received state [] items specs [] clones placed = placed
  received state [] items specs (made ∷ front) clones placed = absurd clones
  received state (Err f ∷ l) items specs front clones placed = (tt, received state l items specs front clones placed)
  received state (Ok e ∷ l) items specs front clones placed =
      one_received state e e.read_children (l ++ items) specs (found state l) front refl clones (λ left same. received state l items specs left same placed)

  -- those of a list alone are placed
  pub list_placed : (state : R) (l items : List (Item R E)) (specs : List (Spec R)) → items ≡ l → AreClones copies (found state l) specs → ArePlaced below items specs
  list_placed state l items specs same clones =
      subst (λ i. AreBelow below (pair_up i specs)) (sym same)
      (subst (λ i. AreBelow below (pair_up i specs)) (append-nil l)
      (subst (λ s. AreBelow below (pair_up (l ++ []) s)) (append-nil specs)
      (received state l [] [] specs clones tt)))

  outcome_received : (o : Outcome R E) (items : List (Item R E)) (specs front : List (Spec R)) → AreClones copies (children_of o) front → AreBelow below (pair_up items specs) → AreBelow below (pair_up (list_of o ++ items) (front ++ specs))
  outcome_received (Ok r) items specs front clones placed = received r.state r.list items specs front clones placed
  outcome_received (Err f) items specs [] clones placed = placed
  outcome_received (Err f) items specs (made ∷ front) clones placed = absurd clones

  -- with nothing to be read every item is placed
  none_first : (b : Bool) (x : Item R E) (items : List (Item R E)) → AreBelow below (pair_up {R = R} items []) → Placed b x items []
  none_first false x items rest = (tt, rest)
  none_first true x items rest = (tt, rest)

  none_below : (items : List (Item R E)) → AreBelow below (pair_up {R = R} items [])
  none_below [] = tt
  none_below (x ∷ items) = none_first (has_directory x) x items (none_below items)

  pub unread_placed : (items : List (Item R E)) (specs : List (Spec R)) → specs ≡ [] → ArePlaced below items specs
  unread_placed items specs none = rw none (none_below items)

  -- the next directory is the one below the first item, if that has one
  pub first_below : (x : Item R E) (items : List (Item R E)) (first : Spec R) (rest : List (Spec R)) → has_directory x ≡ true → ArePlaced below (x ∷ items) (first ∷ rest) → below x first
  first_below x items first rest has placed = next_below (has_directory x) x items first rest has placed

  module _ (known : Item R E → Spec R → Outcome R E → Type 0) (options : Options) where
    next_stays : {items items' : List (Item R E)} {specs specs' : List (Spec R)} {passed : Item R E} → PassesNext copies known options items specs passed items' specs' → AreBelow below (pair_up items specs) → AreBelow below (pair_up items' specs')
    next_stays (passed_plainly {x = x} {items = items} {specs = specs} plain) placed = behind_plain (has_directory x) x items specs plain placed
    next_stays (passed_entering {x = x} {items = items} {specs = specs} {outcome = outcome} has reads) placed =
        let before : AreBelow below (pair_up (x ∷ items) (reads.first ∷ reads.rest)) = subst (λ l. AreBelow below (pair_up (x ∷ items) l)) reads.took placed in
        rw reads.stacks.left (outcome_received outcome items reads.rest reads.stacks.front reads.stacks.clones (behind_directory (has_directory x) x items reads.first reads.rest has before))

    module _ (items : List (Item R E)) (specs : List (Spec R)) where
      -- items that are left out leave the others placed
      pub left_placed : {items' : List (Item R E)} {specs' : List (Spec R)} → LeavesOut copies known options items specs items' specs' → ArePlaced below items specs → ArePlaced below items' specs'
      left_placed none_left_out placed = placed
      left_placed (one_left_out before next out) placed = next_stays next (left_placed before placed)

      -- and so does one that is yielded behind them
      pub answered_placed : (answer : Option (Item R E)) (items' : List (Item R E)) (specs' : List (Spec R)) → ReadsUpTo copies known options items specs answer items' specs' → ArePlaced below items specs → ArePlaced below items' specs'
      answered_placed None items' specs' reads placed = rw (reads.3.1) tt
      answered_placed (Some answer) items' specs' reads placed = next_stays reads.3.0 (left_placed reads.2 placed)

-- Where nothing is to be read, every item is placed by its directory,
pub none_placed : {R E : Type 0} (items : List (Item R E)) (specs : List (Spec R)) → specs ≡ [] → ArePlaced IsBelow items specs
none_placed items specs none = unread_placed (λ x y. Unit {0}) IsBelow (found_there (λ x y. Unit {0})) items specs none

-- and so are those of a list whose directories are to be read.
pub root_placed : {R E : Type 0} (copies : R → R → Type 0) (r : Reading R E) (items : List (Item R E)) (specs : List (Spec R)) → items ≡ r.list → AreClones copies (children r) specs → ArePlaced IsBelow items specs
root_placed copies r items specs same clones = list_placed copies IsBelow (found_there copies) r.state r.list items specs same clones

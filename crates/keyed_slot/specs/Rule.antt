-- What holds of a slot's table between any two steps, and what each step makes known.
use Rattle.std.specs.Prelude.{◌≡◌, ◌≢◌, ℕ, Bool, true, false, List, [], ◌∷◌, length, slice_index, Option, Some, None}
use mathlib.Core.Option as core
use lib.ListN.{get_elem?}
use Rattle.atomic_table.specs.Table.{State, Me}
use Rattle.keyed_slot.specs.declared.rule.Known.{Known}

module _ {X T M : Type 0} where
  -- what the key's seat knows, by whether the value is out with it, and by what it took and put back
  abbrev pub with_key : Bool → T → M → Option X → Option X → Known T M X
  with_key holds tag mark took put = record { has_key = true; holds = holds; tag = tag; mark = mark; took = took; put = put }

  -- what another seat knows that took this, or nothing
  abbrev pub without_key : Bool → T → M → Option X → Known T M X
  without_key holds tag mark took = record { has_key = false; holds = holds; tag = tag; mark = mark; took = took; put = None }

  -- Only the first seat has the key, only the holder has the value out, and each of the two knows the mark.
  pub record IsSo (mark : M) (holder word seat : ℕ) (v : Known T M X) : Type 0 where
    pub key : v.has_key ≡ true → (seat ≡ 0) × (v.mark ≡ mark)
    pub out : v.holds ≡ true → (seat ≡ holder) × (v.mark ≡ mark) × (word ≢ 0)

module _ {X T M : Type 0} (fits : T → X → Type 0) (mark_of : X → M) where
  -- The value is in its place, it fits, and this is its mark.
  pub record IsHome (tag : T) (mark : M) (homes : List (core.Option (Option X))) : Type 0 where
    pub value : X
    pub there : get_elem? homes 0 ≡ core.some (core.some (Some value))
    pub fit : fits tag value
    pub marked : mark_of value ≡ mark

  -- Where the word is 0 the value is at home, and its mark is the one that the key's seat knows.
  pub record IsKept (tag : T) (s : State (Option X) (Known T M X)) : Type 0 where
    pub mark : M
    pub holder : ℕ
    pub one : length s.words ≡ 1
    pub home : slice_index s.words 0 ≡ 0 → IsHome tag mark s.homes
    pub each : (seat : ℕ) (v : Known T M X) → get_elem? s.views seat ≡ core.some v → IsSo mark holder (slice_index s.words 0) seat v

  -- A seat has taken a value that fits, and knows its mark.
  pub record HasTaken (has_key : Bool) (tag : T) (m : Me (Option X) (Known T M X)) : Type 0 where
    pub value : X
    pub fit : fits tag value
    pub is : m ≡ (record { has_key = has_key; holds = true; tag = tag; mark = mark_of value; took = Some value; put = None }, (0, Some value) ∷ [])

  -- Where the value was at home, a new seat has taken it. Else it took nothing.
  abbrev pub Takes : Me (Option X) (Known T M X) → ℕ → Me (Option X) (Known T M X) → Type 0
  Takes before found after = (found ≡ 0 → HasTaken false before.0.tag after) × (found ≢ 0 → after.0.took ≡ None)

  -- Where the value was at home, the key's seat has taken it, and it has the mark that this seat knew. Else the seat knows that it took nothing.
  abbrev pub TakesWith : Me (Option X) (Known T M X) → ℕ → Me (Option X) (Known T M X) → Type 0
  TakesWith before found after = (found ≡ 0 → HasTaken true before.0.tag after × (after.0.mark ≡ before.0.mark)) × (found ≢ 0 → after ≡ (with_key false before.0.tag before.0.mark None None, []))

module _ {X T M : Type 0} where
  -- A seat has put back what it had.
  abbrev pub Puts : Me (Option X) (Known T M X) → Me (Option X) (Known T M X) → Type 0
  Puts before after = (value : X) (more : List (ℕ × Option X)) → before.1 ≡ (0, Some value) ∷ more → after.0 ≡ record before.0 { holds = false; put = Some value }

  -- The key's seat has put back what it had, and knows the mark of it.
  abbrev pub PutsWith : (X → M) → Me (Option X) (Known T M X) → Me (Option X) (Known T M X) → Type 0
  PutsWith mark_of before after = (value : X) → before.1 ≡ (0, Some value) ∷ [] → after ≡ (with_key false before.0.tag (mark_of value) before.0.took (Some value), [])

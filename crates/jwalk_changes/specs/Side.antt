-- One input of a comparison: what is taken of it, and in which order.
use Rattle.std.specs.Prelude.{◌≡◌, ◌+◌, ℕ, Bool, true, false, List, [], ◌∷◌, ◌++◌, Option, Some, None}
use Rattle.std.specs.Iterator.{Count, IsFinite, size, Yields, YieldsThen}
use Rattle.jwalk_changes.specs.declared.side.Ahead.{Ahead}
use Rattle.jwalk_changes.specs.declared.side.Ahead.TheVariants.{Unasked, Taken, Over, Fallen}
use Rattle.jwalk_changes.specs.declared.side.Side.{Side}
use Rattle.jwalk_changes.specs.AtPath.{is_before}
use Rattle.jwalk_changes.specs.Differences.{Ascends}

-- what was taken and isn't compared yet
abbrev pub waiting : {X : Type 0} → Ahead X → List X
waiting Unasked = []
waiting (Taken x) = x ∷ []
waiting Over = []
waiting Fallen = []

-- whether the input has ended
abbrev pub is_over_in : {X : Type 0} → Ahead X → Bool
is_over_in Unasked = false
is_over_in (Taken x) = false
is_over_in Over = true
is_over_in Fallen = false

-- whether it has been found not to ascend
abbrev pub is_fallen_in : {X : Type 0} → Ahead X → Bool
is_fallen_in Unasked = false
is_fallen_in (Taken x) = false
is_fallen_in Over = false
is_fallen_in Fallen = true

-- whether nothing was taken of it
abbrev pub is_fresh_in : {X : Type 0} → Ahead X → Bool
is_fresh_in Unasked = true
is_fresh_in (Taken x) = false
is_fresh_in Over = false
is_fresh_in Fallen = false

-- A list may be all that is still to be compared: it begins with what was taken, and is empty where the input has ended.
abbrev pub MayBeLeft : {X : Type 0} → Ahead X → List X → Type 0
MayBeLeft Unasked l = Unit {0}
MayBeLeft (Taken x) [] = ⊥
MayBeLeft (Taken x) (y ∷ l) = y ≡ x
MayBeLeft Over l = l ≡ []
MayBeLeft Fallen l = Unit {0}

-- whether an item may come next: it comes after the one that waits
abbrev pub ascends_with : {X : Type 0} → (X → List (List ℕ)) → Ahead X → X → Bool
ascends_with path Unasked y = true
ascends_with path (Taken x) y = is_before (path x) (path y)
ascends_with path Over y = true
ascends_with path Fallen y = true

-- The input may be asked, and ends, unless nothing more is asked of it.
abbrev pub MayAsk : {I X : Type 0} → (I → Type 0) → (I → Count) → Ahead X → I → Type 0
MayAsk can left Unasked items = can items × IsFinite (left items)
MayAsk can left (Taken x) items = can items × IsFinite (left items)
MayAsk can left Over items = Unit {0}
MayAsk can left Fallen items = Unit {0}

-- at most how many turns an input still takes
abbrev pub turns_in : {X : Type 0} → Ahead X → ℕ → ℕ
turns_in Unasked n = n + 1
turns_in (Taken x) n = n + 1
turns_in Over n = 0
turns_in Fallen n = 1

module _ {I X : Type 0} (next : I → Option X → I → Type 0) where
  -- Calls of an iterator yielded these: none if it had ended, and then `None` if it has now.
  abbrev pub Takes : Bool → Bool → I → List X → I → Type 0
  Takes true over start taken end = (taken ≡ []) × (start ≡ end)
  Takes false true start taken end = YieldsThen next start taken None end
  Takes false false start taken end = Yields next start taken end

module _ {I X : Type 0} (next : I → Option X → I → Type 0) (path : X → List (List ℕ)) where
  -- What is known once the iterator was asked for another: it must come after the one that waits.
  abbrev pub Asks : Ahead X → I → Ahead X → I → Type 0
  Asks before items Unasked left = ⊥
  Asks before items (Taken x) left = next items (Some x) left × (ascends_with path before x ≡ true)
  Asks before items Over left = next items None left
  Asks before items Fallen left = (x : X) × next items (Some x) left × (ascends_with path before x ≡ false)

module _ {I X : Type 0} where
  -- the iterator that is asked
  abbrev pub items_of : Side X I → I
  items_of s = s.items

  abbrev pub is_over : Side X I → Bool
  is_over s = is_over_in s.ahead

  abbrev pub is_fallen : Side X I → Bool
  is_fallen s = is_fallen_in s.ahead

  abbrev pub CanGoOnAt : (I → Type 0) → (I → Count) → Side X I → Type 0
  CanGoOnAt can left s = MayAsk can left s.ahead s.items

  abbrev pub turns_left : (I → Count) → Side X I → ℕ
  turns_left left s = turns_in s.ahead (size (left s.items))

module _ {I X : Type 0} (next : I → Option X → I → Type 0) (path : X → List (List ℕ)) where
  -- From one state to another some items were taken, and some compared.
  pub record Passes (old new : Side X I) : Type 0 where
    pub taken : List X
    pub compared : List X
    pub takes : Takes next (is_over old) (is_over new) (items_of old) taken (items_of new)
    pub stays_over : is_over old ≡ true → is_over new ≡ true
    pub stays_fallen : is_fallen old ≡ true → is_fallen new ≡ true
    -- what waited and was taken was compared, or waits now
    pub queue : is_fallen new ≡ false → waiting old.ahead ++ taken ≡ compared ++ waiting new.ahead
    -- what may be left now was left before, behind what was compared
    pub follows : (l : List X) → MayBeLeft new.ahead l → MayBeLeft old.ahead (compared ++ l)
    -- and it ascends together with it
    pub ascends : is_fallen new ≡ false → (l : List X) → MayBeLeft new.ahead l → Ascends path l → Ascends path (compared ++ l)
    -- It is found not to ascend only if it doesn't.
    pub falls : is_fallen new ≡ true → is_fallen old ≡ false → Ascends path (waiting old.ahead ++ taken) → ⊥

  -- What waited is compared.
  pub record Advances (old new : Side X I) : Type 0 where
    pub passes : Passes old new
    pub compared : passes.compared ≡ waiting old.ahead

-- How an iterator passes what it holds: its items and the unread specifications.
use Rattle.std.specs.Prelude.{◌≡◌, ◌≢◌, true, false, List, [], ◌∷◌, ◌++◌, Option, Some, None}
use Rattle.jwalk_model.specs.Entry.{Item, has_directory}
use Rattle.jwalk_model.specs.ReadDir.{Spec, Outcome, list_of}
use Rattle.jwalk_model.specs.Listing.{after_reading, is_answered}
use Rattle.jwalk_model.specs.Held.{first_source, is_plain}
use Rattle.jwalk_model.specs.Options.{Options}
use Rattle.jwalk_readings.specs.Reads.{ReadsFirstBy}

-- A directory is to be read below the first item.
abbrev pub IsAtDirectory : {R E : Type 0} → List (Item R E) → List (Spec R) → Type 0
IsAtDirectory [] specs = ⊥
IsAtDirectory (x ∷ items) specs = (has_directory x ≡ true) × (specs ≢ [])

-- The outcome of a directory's reading is received: its items are put in front of the others, and an error is put in its entry.
abbrev pub Receives : {R E : Type 0} → Option (Outcome R E) → Item R E → List (Item R E) → Item R E → List (Item R E) → Type 0
Receives None x old answer new = (answer ≡ x) × (new ≡ old)
Receives (Some outcome) x old answer new = (answer ≡ after_reading outcome x) × (new ≡ list_of outcome ++ old)

module _ {R E : Type 0} (copies : R → R → Type 0) (known : Item R E → Spec R → Outcome R E → Type 0) (options : Options) where
  -- The next item is passed. A directory takes the first unread specification and reads it alone. Its children are put in front of the other specifications, as the items of its reading are of the other items. What is known of that reading may depend on the item. Any other item leaves them as they are.
  pub data PassesNext : List (Item R E) → List (Spec R) → Item R E → List (Item R E) → List (Spec R) → Type 0 where
    passed_plainly : {x : Item R E} {items : List (Item R E)} {specs : List (Spec R)} → is_plain (first_source {R = R} {E = E} (has_directory x) specs) ≡ true → PassesNext (x ∷ items) specs x items specs
    passed_entering : {x : Item R E} {items : List (Item R E)} {specs left : List (Spec R)} {outcome : Outcome R E} → has_directory x ≡ true → ReadsFirstBy copies (known x) options.max_depth specs outcome left → PassesNext (x ∷ items) specs (after_reading outcome x) (list_of outcome ++ items) left

  -- Items that the least depth leaves out are passed one after another.
  pub data LeavesOut (items : List (Item R E)) (specs : List (Spec R)) : List (Item R E) → List (Spec R) → Type 0 where
    none_left_out : LeavesOut items specs items specs
    one_left_out : {between : List (Item R E)} {unread : List (Spec R)} {passed : Item R E} {items' : List (Item R E)} {specs' : List (Spec R)} → LeavesOut items specs between unread → PassesNext between unread passed items' specs' → is_answered options.min_depth passed ≡ false → LeavesOut items specs items' specs'

  -- The next item is passed and yielded, or there is none.
  abbrev pub AnswersNext : List (Item R E) → List (Spec R) → Option (Item R E) → List (Item R E) → List (Spec R) → Type 0
  AnswersNext items specs None items' specs' = (items ≡ []) × (items' ≡ []) × (specs' ≡ specs)
  AnswersNext items specs (Some answer) items' specs' = PassesNext items specs answer items' specs' × (is_answered options.min_depth answer ≡ true)

  -- Items are passed one after another up to the first that the least depth keeps, or up to the end.
  abbrev pub ReadsUpTo : List (Item R E) → List (Spec R) → Option (Item R E) → List (Item R E) → List (Spec R) → Type 0
  ReadsUpTo items specs answer items' specs' =
      (between : List (Item R E)) × (unread : List (Spec R)) × LeavesOut items specs between unread × AnswersNext between unread answer items' specs'

  -- Items are passed one after another up to a directory that is to be read.
  abbrev pub StopsAtDirectory : List (Item R E) → List (Spec R) → Type 0
  StopsAtDirectory items specs =
      (between : List (Item R E)) × (unread : List (Spec R)) × LeavesOut items specs between unread × IsAtDirectory between unread

-- One item is passed, and items are passed one after another, over any source.
use Rattle.std.proofs.Common.{◌≡◌, ℕ, ◌+◌, ◌<◌, ◌≤◌, Bool, true, false, List, [], ◌∷◌, ◌++◌, map, length, Option, Some, Ok, Err, refl, sym, ap, ◌∙◌, subst, arith}
use Rattle.std.specs.Prelude.{if◌then◌else◌}
use Rattle.std.proofs.lemmas.List.{map-append}
use lib.ListN.{length-append}
use Rattle.jwalk_model.specs.Options.{Options}
use Rattle.jwalk_model.specs.Entry.{Entry, Item, has_directory, NoDeeper}
use Rattle.jwalk_model.specs.ReadDir.{Spec, Outcome, children_of, list_of}
use Rattle.jwalk_model.specs.Counted.{Worth}
use Rattle.jwalk_model.specs.Listing.{Pair, after_reading, is_answered, answers, listing}
use Rattle.jwalk_model.specs.Held.{first_source, after_first, is_plain, pair_up, weight, AnswersPlainly}
use Rattle.jwalk_model.proofs.CloneFacts.{same_length, counted_clones}
use Rattle.jwalk_model.proofs.CountedFacts.{counted-has_directory, counted-after_reading, counted-is_answered, counted-list_of, counted-children_of, counted-IsLawfulReading}
use Rattle.jwalk_model.proofs.HeldFacts.{directories, directories-append, as_many_of, lighter, lighter_alone, listed, alone, unread_none}
use Rattle.jwalk_model.proofs.WithinFacts.{NoDeeper-append, of_reading, after, first_of}
use Rattle.jwalk_job.specs.Given.{Given, counted_entry, counted_item, counted_spec, counted_outcome}
use Rattle.jwalk_readings.specs.Reads.{ReadsFirstBy}
use Rattle.jwalk_iter.specs.Step.{PassesNext, passed_plainly, passed_entering, LeavesOut, none_left_out, one_left_out}

-- a source that gives nothing takes no specification
plain_keeps : {R : Type 0} (E : Type 0) (b : Bool) (ss : List (Spec R)) → is_plain (first_source {R = R} {E = E} b ss) ≡ true → after_first b ss ≡ ss
plain_keeps E false ss h = refl
plain_keeps E true [] h = refl
plain_keeps E true (s ∷ ss) h = let no : false ≡ true = h in cc

-- an item that gives nothing has no directory, where each directory has a specification
plain_count : {R : Type 0} (E : Type 0) (b : Bool) (ss : List (Spec R)) (n : ℕ) → is_plain (first_source {R = R} {E = E} b ss) ≡ true → length ss ≡ (if b then 1 else 0) + n → length ss ≡ n
plain_count E false ss n h same = omega (arith, same)
plain_count E true [] n h same = absurd (omega (arith, same))
plain_count E true (s ∷ ss) n h same = let no : false ≡ true = h in cc

entry_alone : {R E : Type 0} (x : Item R E) → has_directory x ≡ true → (P : Item R E → Type 0) → ((e : Entry R E) → has_directory {R = R} (Ok e) ≡ true → P (Ok e)) → P x
entry_alone (Ok e) h P k = k e h
entry_alone (Err f) h P k = let no : false ≡ true = h in cc

module _ {R E : Type 0} (copies : R → R → Type 0) (known : Item R E → Spec R → Outcome R E → Type 0) (options : Options) where
  abbrev Next : List (Item R E) → List (Spec R) → Item R E → List (Item R E) → List (Spec R) → Type 0
  Next = PassesNext copies known options

  -- It is passed in the same way where less is known.
  pub next_over : (less : Item R E → Spec R → Outcome R E → Type 0) → ((x : Item R E) (s : Spec R) (o : Outcome R E) → known x s o → less x s o) → {items : List (Item R E)} {specs : List (Spec R)} {answer : Item R E} {items' : List (Item R E)} {specs' : List (Spec R)} → Next items specs answer items' specs' → PassesNext copies less options items specs answer items' specs'
  next_over less within (passed_plainly plain) = passed_plainly plain
  next_over less within (passed_entering {x} {outcome = outcome} dir reads) =
      let reading = reads.reading in
      passed_entering dir (record { first = reads.first; rest = reads.rest; took = reads.took; reading = record { lawful = reading.lawful; few = reading.few; value = within x reads.first outcome reading.value }; stacks = reads.stacks })

  -- ---- depths

  pub next_within : {items : List (Item R E)} {specs : List (Spec R)} {answer : Item R E} {items' : List (Item R E)} {specs' : List (Spec R)} → Next items specs answer items' specs' → NoDeeper options.max_depth items → NoDeeper options.max_depth (answer ∷ []) × NoDeeper options.max_depth items'
  next_within (passed_plainly {x} {items} plain) h = first_of options.max_depth x items h
  next_within (passed_entering {x} {items} {outcome = outcome} dir reads) h =
      let parts = first_of options.max_depth x items h in
      (after options.max_depth outcome x parts.0, NoDeeper-append options.max_depth (list_of outcome) items (of_reading options.max_depth reads.first outcome reads.reading.lawful) parts.1)

  -- ---- what is held gets lighter

  pub next_lighter : {items : List (Item R E)} {specs : List (Spec R)} {answer : Item R E} {items' : List (Item R E)} {specs' : List (Spec R)} → Next items specs answer items' specs' → weight options.max_depth (pair_up items' specs') < weight options.max_depth (pair_up items specs)
  next_lighter (passed_plainly {x} {items} {specs} plain) =
      subst (λ l. weight options.max_depth (pair_up items l) < weight options.max_depth (pair_up (x ∷ items) specs)) (plain_keeps E (has_directory x) specs plain) (lighter_alone options.max_depth x items specs)
  next_lighter (passed_entering {x} {items} {specs} {left} {outcome} dir reads) =
      entry_alone x dir (λ y. weight options.max_depth (pair_up (list_of outcome ++ items) left) < weight options.max_depth (pair_up (y ∷ items) specs))
      (λ e has. rw (reads.took, reads.stacks.left) (lighter options.max_depth copies e items reads.first reads.rest reads.stacks.front outcome has reads.reading.lawful reads.reading.few reads.stacks.clones))

  -- ---- each directory has its source

  pub next_count : {items : List (Item R E)} {specs : List (Spec R)} {answer : Item R E} {items' : List (Item R E)} {specs' : List (Spec R)} → Next items specs answer items' specs' → length specs ≡ directories items → length specs' ≡ directories items'
  next_count (passed_plainly {x} {items} {specs} plain) h = plain_count E (has_directory x) specs (directories items) plain h
  next_count (passed_entering {x} {items} {specs} {left} {outcome} dir reads) h =
      let one : length specs ≡ 1 + directories items = rw dir at h in
      let rest : length specs ≡ 1 + length reads.rest = ap length reads.took ∙ omega arith in
      let front : length reads.stacks.front ≡ directories (list_of outcome) = same_length copies (children_of outcome) reads.stacks.front reads.stacks.clones ∙ as_many_of outcome in
      let all : length left ≡ length reads.stacks.front + length reads.rest = ap length reads.stacks.left ∙ length-append reads.stacks.front reads.rest in
      omega (arith, one, rest, front, all, directories-append (list_of outcome) items)

  -- ---- what is yielded plainly

  pub next_plain_out : {items : List (Item R E)} {specs : List (Spec R)} {passed : Item R E} {items' : List (Item R E)} {specs' : List (Spec R)} (min_depth : ℕ) → Next items specs passed items' specs' → is_answered min_depth passed ≡ false → (answer : Option (Item R E)) (new : List (Pair R E)) → AnswersPlainly min_depth (pair_up items' specs') answer new → AnswersPlainly min_depth (pair_up items specs) answer new
  next_plain_out min_depth (passed_plainly {x} {items} {specs} plain) out answer new h =
      rw (plain, out) (subst (λ l. AnswersPlainly min_depth (pair_up items l) answer new) (sym (plain_keeps E (has_directory x) specs plain)) h)
  next_plain_out min_depth (passed_entering {x} {items} {specs} dir reads) out answer new h = rw (reads.took, dir) tt

  pub next_plain : {items : List (Item R E)} {specs : List (Spec R)} {answer : Item R E} {items' : List (Item R E)} {specs' : List (Spec R)} (min_depth : ℕ) → Next items specs answer items' specs' → is_answered min_depth answer ≡ true → AnswersPlainly min_depth (pair_up items specs) (Some answer) (pair_up items' specs')
  next_plain min_depth (passed_plainly {x} {items} {specs} plain) kept = rw (plain, kept) (refl, ap (pair_up items) (sym (plain_keeps E (has_directory x) specs plain)))
  next_plain min_depth (passed_entering {x} {items} {specs} dir reads) kept = rw (reads.took, dir) tt

  -- ---- what is listed

  module _ (reading : Spec Worth → Outcome Worth Worth) (given : Given R E) where
    abbrev Listed : List (Item R E) → List (Spec R) → List (Item Worth Worth)
    Listed items specs = listing reading options.max_depth (pair_up (map (counted_item given) items) (map (counted_spec given) specs))

    listed_plainly : (x : Item R E) (items : List (Item R E)) (specs : List (Spec R)) (b : Bool) → has_directory x ≡ b → is_plain (first_source {R = R} {E = E} (has_directory x) specs) ≡ true → Listed (x ∷ items) specs ≡ counted_item given x ∷ Listed items specs
    listed_plainly x items specs false h plain =
        alone reading options.max_depth (counted_item given x) (map (counted_item given) items) (map (counted_spec given) specs) (counted-has_directory given.read_dir_state given.dir_entry_state x ∙ h)
    listed_plainly x items [] true h plain =
        unread_none reading options.max_depth (counted_item given x) (map (counted_item given) items) [] refl (counted-has_directory given.read_dir_state given.dir_entry_state x ∙ h)
    listed_plainly x items (s ∷ specs) true h plain = let no : false ≡ true = rw h at plain in cc

    module _ (cloned : (x y : R) → copies x y → given.read_dir_state y ≡ given.read_dir_state x) (as_given : (x : Item R E) (s : Spec R) (o : Outcome R E) → known x s o → counted_outcome given o ≡ reading (counted_spec given s)) where
      listed_entering : (e : Entry R E) (items : List (Item R E)) (specs left : List (Spec R)) (outcome : Outcome R E) → has_directory {R = R} (Ok e) ≡ true → ReadsFirstBy copies (known (Ok e)) options.max_depth specs outcome left → Listed (Ok e ∷ items) specs ≡ counted_item given (after_reading outcome (Ok e)) ∷ Listed (list_of outcome ++ items) left
      listed_entering e items specs left outcome dir reads =
          let view = given.read_dir_state in
          let mark = given.dir_entry_state in
          let front : map (counted_spec given) left ≡ children_of (counted_outcome given outcome) ++ map (counted_spec given) reads.rest
          = ap (map (counted_spec given)) reads.stacks.left
          ∙ map-append (counted_spec given) reads.stacks.front reads.rest
          ∙ ap (λ l. l ++ map (counted_spec given) reads.rest) (counted_clones copies view cloned (children_of outcome) reads.stacks.front reads.stacks.clones ∙ sym (counted-children_of view mark outcome)) in
          let items_too : map (counted_item given) (list_of outcome ++ items) ≡ list_of (counted_outcome given outcome) ++ map (counted_item given) items
          = map-append (counted_item given) (list_of outcome) items ∙ ap (λ l. l ++ map (counted_item given) items) (sym (counted-list_of view mark outcome)) in
          ap (Listed (Ok e ∷ items)) reads.took
          ∙ listed reading options.max_depth (counted_entry given e) (map (counted_item given) items) (counted_spec given reads.first) (map (counted_spec given) reads.rest) (counted_outcome given outcome) (counted-has_directory view mark (Ok e) ∙ dir) (counted-IsLawfulReading view mark options.max_depth reads.first outcome reads.reading.lawful) (as_given (Ok e) reads.first outcome reads.reading.value)
          ∙ ap (λ a. a ∷ listing reading options.max_depth (pair_up (list_of (counted_outcome given outcome) ++ map (counted_item given) items) (children_of (counted_outcome given outcome) ++ map (counted_spec given) reads.rest))) (counted-after_reading view mark outcome (Ok e))
          ∙ ap (λ l. counted_item given (after_reading outcome (Ok e)) ∷ listing reading options.max_depth (pair_up l (children_of (counted_outcome given outcome) ++ map (counted_spec given) reads.rest))) (sym items_too)
          ∙ ap (λ l. counted_item given (after_reading outcome (Ok e)) ∷ listing reading options.max_depth (pair_up (map (counted_item given) (list_of outcome ++ items)) l)) (sym front)

      pub next_listed : {items : List (Item R E)} {specs : List (Spec R)} {answer : Item R E} {items' : List (Item R E)} {specs' : List (Spec R)} → Next items specs answer items' specs' → Listed items specs ≡ counted_item given answer ∷ Listed items' specs'
      next_listed (passed_plainly {x} {items} {specs} plain) = listed_plainly x items specs (has_directory x) refl plain
      next_listed (passed_entering {x} {items} {specs} {left} {outcome} dir reads) =
          entry_alone x dir (λ y. ReadsFirstBy copies (known y) options.max_depth specs outcome left → Listed (y ∷ items) specs ≡ counted_item given (after_reading outcome y) ∷ Listed (list_of outcome ++ items) left)
          (λ e has reads. listed_entering e items specs left outcome has reads) reads

  -- ---- items that are left out

  module _ (items : List (Item R E)) (specs : List (Spec R)) where
    abbrev Left : List (Item R E) → List (Spec R) → Type 0
    Left = LeavesOut copies known options items specs

    pub left_within : {items' : List (Item R E)} {specs' : List (Spec R)} → Left items' specs' → NoDeeper options.max_depth items → NoDeeper options.max_depth items'
    left_within none_left_out h = h
    left_within (one_left_out before next out) h = (next_within next (left_within before h)).1

    pub left_lighter : {items' : List (Item R E)} {specs' : List (Spec R)} → Left items' specs' → weight options.max_depth (pair_up items' specs') ≤ weight options.max_depth (pair_up items specs)
    left_lighter none_left_out = omega arith
    left_lighter (one_left_out before next out) = omega (arith, left_lighter before, next_lighter next)

    pub left_count : {items' : List (Item R E)} {specs' : List (Spec R)} → Left items' specs' → length specs ≡ directories items → length specs' ≡ directories items'
    left_count none_left_out h = h
    left_count (one_left_out before next out) h = next_count next (left_count before h)

    pub left_plain : {items' : List (Item R E)} {specs' : List (Spec R)} → Left items' specs' → (answer : Option (Item R E)) (new : List (Pair R E)) → AnswersPlainly options.min_depth (pair_up items' specs') answer new → AnswersPlainly options.min_depth (pair_up items specs) answer new
    left_plain none_left_out answer new h = h
    left_plain (one_left_out before next out) answer new h = left_plain before answer new (next_plain_out options.min_depth next out answer new h)

    pub left_to_come : (reading : Spec Worth → Outcome Worth Worth) (given : Given R E) → ((x y : R) → copies x y → given.read_dir_state y ≡ given.read_dir_state x) → ((x : Item R E) (s : Spec R) (o : Outcome R E) → known x s o → counted_outcome given o ≡ reading (counted_spec given s)) → {items' : List (Item R E)} {specs' : List (Spec R)} → Left items' specs' → answers options.min_depth (Listed reading given items specs) ≡ answers options.min_depth (Listed reading given items' specs')
    left_to_come reading given cloned as_given none_left_out = refl
    left_to_come reading given cloned as_given (one_left_out {passed = passed} before next out) =
        left_to_come reading given cloned as_given before
        ∙ ap (answers options.min_depth) (next_listed reading given cloned as_given next)
        ∙ rw (counted-is_answered given.read_dir_state given.dir_entry_state options.min_depth passed, out) refl

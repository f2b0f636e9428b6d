-- Walks with a callback over a small tree, row by row: what they yield. The root list is the first that a callback is given.
use Rattle.std.specs.Prelude.{◌≡◌, ℕ, ◌+◌, ◌==◌, Bool, true, false, not, List, [], ◌∷◌, ◌++◌, map, filter, flat_map, Option, Some, None, Ok, Err, if◌then◌else◌, bytes_eq, take, option_map, codes, refl}
use Rattle.std.specs.Fmt.{digits}
use Rattle.jwalk_model.specs.TreeRows.{Step, d, f, l}
use Rattle.jwalk_model.specs.Entry.{Children, Entry, Item, has_directory, is_hidden, path_of}
use Rattle.jwalk_model.specs.ReadDir.{Reading, children}
use Rattle.jwalk_model.specs.Sorting.{arranged}
use Rattle.jwalk_model.specs.Options.{Options, defaults}
use Rattle.jwalk_model.specs.Job.{Job, root_list}
use Rattle.jwalk_model.specs.Listing.{below}
use Rattle.jwalk_model.specs.Lines.{line_of}
use Rattle.jwalk_model.specs.Walk.{whole_walk}
use Rattle.jwalk_model.specs.WalkRows.{tree_by, tree_a, sorted}

-- states that say nothing
abbrev Nothing : Type 0
Nothing = Unit {0}

-- what a callback makes of a list
abbrev Callback : Type 0 → Type 0 → Type 0
Callback R E = Option ℕ → List ℕ → R → List (Item R E) → Reading R E

module _ {R E : Type 0} where
  -- readings of a tree with a callback
  abbrev job : Callback R E → E → List Step → Options → Job R E
  job callback default steps options = record { fs = tree_by steps; options = options; processed = callback; default = default }

  -- a callback that changes only the items of a list
  abbrev by_items : (List (Item R E) → List (Item R E)) → Callback R E
  by_items change depth path state list = record { state = state; list = change list }

  -- the same change to the entries of a list
  abbrev on_entry : (Entry R E → Entry R E) → Item R E → Item R E
  on_entry change (Ok e) = Ok (change e)
  on_entry change (Err failure) = Err failure

  -- whether an item is an entry that passes
  abbrev is_entry_with : (Entry R E → Bool) → Item R E → Bool
  is_entry_with passes (Ok e) = passes e
  is_entry_with passes (Err failure) = false

  abbrev is_named : List ℕ → Entry R E → Bool
  is_named name e = bytes_eq e.file_name name

  -- the same entry with nothing to be read below it
  abbrev cleared : Entry R E → Entry R E
  cleared e = record e { read_children = None }

  -- the paths of entries, each with its state
  abbrev state_at : Item R E → List (List ℕ × E)
  state_at (Ok e) = (path_of e, e.client_state) ∷ []
  state_at (Err failure) = []

-- The directory of `group 1` is given to `c.txt`.
abbrev directory_of : List ℕ → List (Item Nothing Nothing) → Option (Children Nothing)
directory_of name [] = None
directory_of name (Ok e ∷ items) = if is_named name e then e.read_children else directory_of name items
directory_of name (Err failure ∷ items) = directory_of name items

abbrev moved : Option (Children Nothing) → Entry Nothing Nothing → Entry Nothing Nothing
moved directory e =
    if is_named (codes "c.txt") e then record e { read_children = directory }
    else if is_named (codes "group 1") e then cleared e else e

abbrev moves : Callback Nothing Nothing
moves depth path state list =
    record { state = state; list = (if bytes_eq path (codes "/t") then map (on_entry (moved (directory_of (codes "group 1") list))) list else list) }

directory_moved : map line_of (whole_walk (job moves tt tree_a sorted) (codes "/t") tt)
    ≡ codes "0 d /t\n" ∷ codes "1 f /t/a.txt\n" ∷ codes "1 f /t/b.txt\n" ∷ codes "1 f /t/c.txt\n" ∷ codes "2 f /t/group 1/d.txt\n"
    ∷ codes "1 d /t/group 1\n" ∷ codes "1 d /t/group 2\n" ∷ codes "2 f /t/group 2/e.txt\n" ∷ []
unfolding whole_walk below digits
directory_moved = refl

-- States that are texts, or nothing. Only directories stay. An entry is given its list's state, and its own name for its directory.
abbrev Text : Type 0
Text = Option (List ℕ)

abbrev with_name : List ℕ → Children Text → Children Text
with_name name directory = record directory { state = Some (Some name) }

abbrev with_states : Text → Entry Text Text → Entry Text Text
with_states state e = record e { client_state = state; read_children = option_map (with_name e.file_name) e.read_children }

abbrev hands_on_names : Callback Text Text
hands_on_names depth path state list = record { state = state; list = map (on_entry (with_states state)) (filter has_directory list) }

names_handed_on : flat_map state_at (whole_walk (job hands_on_names None tree_a sorted) (codes "/t") None)
    ≡ (codes "/t", None) ∷ (codes "/t/group 1", Some (codes "t")) ∷ (codes "/t/group 2", Some (codes "t")) ∷ []
unfolding whole_walk below
names_handed_on = refl

-- A count of lists, and a mark on the first entry of each. Entries that aren't hidden stay, by name, and nothing is read below depth 2.
abbrev is_shown : Entry ℕ Bool → Bool
is_shown e = not (is_hidden e.file_name)

abbrev cleared_at_two : Entry ℕ Bool → Entry ℕ Bool
cleared_at_two e = if e.depth == 2 then cleared e else e

abbrev first_marked : List (Item ℕ Bool) → List (Item ℕ Bool)
first_marked [] = []
first_marked (item ∷ items) = on_entry (λ e. record e { client_state = true }) item ∷ items

abbrev extended : Callback ℕ Bool
extended depth path state list =
    record { state = state + 1; list = first_marked (map (on_entry cleared_at_two) (filter (is_entry_with is_shown) (arranged list))) }

abbrev extended_job : List Step → Job ℕ Bool
extended_job steps = job extended false steps defaults

first_entries_marked : flat_map state_at (whole_walk (extended_job tree_a) (codes "/t") 0)
    ≡ (codes "/t", true) ∷ (codes "/t/a.txt", true) ∷ (codes "/t/b.txt", false) ∷ (codes "/t/c.txt", false) ∷ (codes "/t/group 1", false)
    ∷ (codes "/t/group 1/d.txt", true) ∷ (codes "/t/group 2", false) ∷ (codes "/t/group 2/e.txt", true) ∷ []
unfolding whole_walk below
first_entries_marked = refl

-- a directory is read with the state that its list was left with
counted_on : map (λ spec. spec.state) (children (root_list (extended_job tree_a) (codes "/t") 0)) ≡ 1 ∷ []
counted_on = refl

nothing_below_depth_two : map line_of (whole_walk (extended_job (d (codes "/t") ∷ d (codes "/t/a") ∷ d (codes "/t/a/b") ∷ f 1 (codes "/t/a/b/c") ∷ [])) (codes "/t") 0)
    ≡ codes "0 d /t\n" ∷ codes "1 d /t/a\n" ∷ codes "2 d /t/a/b\n" ∷ []
unfolding whole_walk below digits
nothing_below_depth_two = refl

-- directories that aren't read, and directories that aren't yielded
abbrev is_group : Entry Nothing Nothing → Bool
is_group e = bytes_eq (take 5 e.file_name) (codes "group")

abbrev clears_groups : Callback Nothing Nothing
clears_groups = by_items (map (on_entry (λ e. if is_group e then cleared e else e)))

abbrev drops_groups : Callback Nothing Nothing
drops_groups = by_items (filter (is_entry_with (λ e. not (is_group e))))

groups_cleared : map line_of (whole_walk (job clears_groups tt tree_a sorted) (codes "/t") tt)
    ≡ codes "0 d /t\n" ∷ codes "1 f /t/a.txt\n" ∷ codes "1 f /t/b.txt\n" ∷ codes "1 f /t/c.txt\n" ∷ codes "1 d /t/group 1\n" ∷ codes "1 d /t/group 2\n" ∷ []
unfolding whole_walk below digits
groups_cleared = refl

groups_dropped : map line_of (whole_walk (job drops_groups tt tree_a sorted) (codes "/t") tt)
    ≡ codes "0 d /t\n" ∷ codes "1 f /t/a.txt\n" ∷ codes "1 f /t/b.txt\n" ∷ codes "1 f /t/c.txt\n" ∷ []
unfolding whole_walk below digits
groups_dropped = refl

-- What a callback is given: the state gathers the depths and paths of the lists above an entry, the nearest last.
abbrev Calls : Type 0
Calls = List (Option ℕ × List ℕ)

abbrev gathered : Calls → List (Item Calls Calls) → Reading Calls Calls
gathered calls list = record { state = calls; list = map (on_entry (λ e. record e { client_state = calls })) list }

abbrev gathers : Callback Calls Calls
gathers depth path state = gathered (state ++ (depth, path) ∷ [])

abbrev below_nothing : Calls
below_nothing = (None, codes "/") ∷ []

calls_for_entries : flat_map state_at (whole_walk (job gathers [] (d (codes "/t") ∷ d (codes "/t/a") ∷ f 1 (codes "/t/a/b") ∷ []) defaults) (codes "/t") [])
    ≡ (codes "/t", below_nothing) ∷ (codes "/t/a", below_nothing ++ (Some 0, codes "/t") ∷ [])
    ∷ (codes "/t/a/b", below_nothing ++ (Some 0, codes "/t") ∷ (Some 1, codes "/t/a") ∷ []) ∷ []
unfolding whole_walk below
calls_for_entries = refl

-- a root that can't be looked up has no parent, a broken link has one
abbrev first_call : List Step → List ℕ → Calls
first_call steps root = (root_list (job gathers [] steps defaults) root []).state

call_for_a_broken_link : first_call (l (codes "/nowhere") (codes "/x") ∷ []) (codes "/x") ≡ (None, codes "/") ∷ []
call_for_a_broken_link = refl

call_for_a_missing_root : first_call [] (codes "/x") ≡ (None, []) ∷ []
call_for_a_missing_root = refl

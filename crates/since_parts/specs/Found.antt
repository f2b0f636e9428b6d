-- What a walk finds.
use Rattle.std.specs.Prelude.{◌≡◌, ℕ, Bool, true, false, not, ◌&&◌, ◌||◌, nat_lt, List, [], ◌∷◌, ◌++◌, map, flat_map, Option, Result, Ok, Err, is_some, option_and_then, if◌then◌else◌}
use Rattle.std.specs.List.{list_all}
use Rattle.std.specs.Iterator.{Drains}
use Rattle.jwalk_model.specs.Entry.{Entry, Item, path_of}
use Rattle.jwalk_job.specs.declared.dir_entry.DirEntry.{DirEntry}
use Rattle.jwalk_job.specs.declared.error.Error.{Error}
use Rattle.jwalk_job.specs.Entry.{item}
use Rattle.jwalk_changes.specs.declared.facts.Facts as changes
use Rattle.since_parts.specs.Facts.{Seen, compared, kept_of, seen_of}
use Rattle.since_parts.specs.Listing.{listed_in, listed_one}
use Rattle.since_parts.specs.Tree.{behind, counts, front_in, own_in}
use Rattle.since_parts.specs.declared.found.Found.{Found}
use Rattle.since_parts.specs.declared.tree.Tree.{Tree}

-- What is found comes behind what was found before.
abbrev pub FindsMore : Found → Found → List Seen → Type 0
FindsMore old new seen = map seen_of new.entries.items ≡ map seen_of old.entries.items ++ seen

-- a path behind the root with what is compared there, unless it is that of the file with the snapshot
abbrev pub kept_one : Option (List ℕ) → List ℕ → changes.Facts → List Seen
kept_one own path facts = if counts own path then record { path = path; facts = facts } ∷ [] else []

module _ {R E : Type 0} where
  -- what is compared of an entry: its type, and what is kept if the walk saw its metadata
  abbrev pub facts_seen : Entry R E → changes.Facts
  facts_seen e = compared true e.file_type (option_and_then kept_of e.seen)

  -- what is found at an entry: its path behind the root, unless it is the root or the file with the snapshot
  abbrev pub found_at : List ℕ → Option (List ℕ) → Entry R E → List Seen
  found_at front own e = if nat_lt 0 e.depth then kept_one own (behind front (path_of e)) (facts_seen e) else []

  abbrev pub found_one : List ℕ → Option (List ℕ) → Item R E → List Seen
  found_one front own (Ok e) = found_at front own e
  found_one front own (Err f) = []

  -- what is found of the answers of a walk, by what paths begin with
  abbrev pub found_in : List ℕ → Option (List ℕ) → List (Item R E) → List Seen
  found_in front own = flat_map (found_one front own)

  -- whether the directory of an entry was read, if it has one. The root has to have one
  abbrev pub is_read : Entry R E → Bool
  is_read e = not (is_some (option_and_then (λ children. children.error) e.read_children)) && (nat_lt 0 e.depth || is_some e.read_children)

  -- whether an answer is no error, and that of an entry whose directory was read
  abbrev pub is_clean : Item R E → Bool
  is_clean (Ok e) = is_read e
  is_clean (Err f) = false

  -- An answer is taken: what is found at it comes behind what was found before, and so how its directory was listed, and it is known whether all are clean.
  pub record TakesOne (tree : Tree) (x : Item R E) (old new : Found) : Type 0 where
    pub found : FindsMore old new (found_one (front_in tree) (own_in tree) x)
    pub listed : new.listings.items ≡ old.listings.items ++ listed_one tree x
    pub clean : new.clean ≡ (old.clean && is_clean x)

-- Nothing was found yet.
pub record HasNone (found : Found) : Type 0 where
  pub entries : found.entries.items ≡ []
  pub listings : found.listings.items ≡ []
  pub clean : found.clean ≡ true

-- This is what is found of answers in a tree, and it is known whether all are clean.
pub record HasAll {R E : Type 0} (tree : Tree) (answered : List (Item R E)) (found : Found) : Type 0 where
  pub found_is : map seen_of found.entries.items ≡ found_in (front_in tree) (own_in tree) answered
  pub listed_is : found.listings.items ≡ listed_in tree answered
  pub clean_is : found.clean ≡ list_all is_clean answered

-- An iterator yielded answers until its end, and this is what is found of them.
pub record TakesAll {C A I R E : Type 0} (next : I → Option (Result (DirEntry C A R E) (Error A)) → I → Type 0) (tree : Tree) (answers : I) (found : Found) : Type 0 where
  pub yielded : List (Result (DirEntry C A R E) (Error A))
  pub drains : Drains next answers yielded
  pub has : HasAll tree (map item yielded) found

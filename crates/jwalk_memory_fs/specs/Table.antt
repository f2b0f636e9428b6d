-- What contracts see of a table, and what is known while directories of it are being emptied.
use Rattle.std.specs.Prelude.{◌≡◌, ℕ, ◌+◌, ◌-◌, ◌<◌, ◌≤◌, List, [], ◌∷◌, length, map}
use Rattle.jwalk_memory_fs.specs.declared.table.Table.{Table}
use Rattle.jwalk_memory_fs.specs.Branch.{Branch, tree_of_table, IsSound, AreSpare}
use Rattle.jwalk_memory_fs.specs.Directory.{branch}

-- the directories in order, the root first
abbrev pub branches : {A : Type 0} → Table A → List Branch
branches t = branch t.root ∷ map branch t.others.items

-- the free places
abbrev pub free_places : {A : Type 0} → Table A → List ℕ
free_places t = t.free.items

-- how many children there are in all
abbrev pub size : List Branch → ℕ
size [] = 0
size (b ∷ bs) = length b.children + size bs

-- Directories that no name refers to are being emptied: the tree is the same, and this many of the free places are empty.
pub record IsReleasing (start now : List Branch) (free : List ℕ) (done : ℕ) : Type 0 where
  pub sound : IsSound now
  pub spare : AreSpare now free done
  pub tree : (place : List (List ℕ)) → tree_of_table now place ≡ tree_of_table start place
  pub same_length : length now ≡ length start

-- One turn of it leaves less to do.
pub record IsTurn (old : List Branch) (done : ℕ) (new : List Branch) (free : List ℕ) (more : ℕ) : Type 0 where
  pub releasing : IsReleasing old new free more
  pub within : more ≤ length free
  pub less : size new + (length new - more) < size old + (length old - done)

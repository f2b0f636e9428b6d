-- The options of a walk, by the builder's calls one after another.
use Rattle.std.specs.Prelude.{◌≡◌, ℕ, ◌-◌, ◌^◌, Bool, true, false, min, max, nat_lt, if◌then◌else◌}

-- how directories are read: one when it is entered, in batches of a width, or ahead by a crew of workers
pub data Parallelism : Type 0 where
  serial : Parallelism
  batches : ℕ → Parallelism
  crew : Parallelism

pub record Options : Type 0 where
  pub sort : Bool
  pub skip_hidden : Bool
  pub follow_links : Bool
  pub same_file_system : Bool
  pub keep_metadata : Bool
  pub min_depth : ℕ
  pub max_depth : ℕ
  pub parallelism : Parallelism

-- what a new builder has
abbrev pub defaults : Options
defaults = record {
  sort = false;
  skip_hidden = true;
  follow_links = false;
  same_file_system = false;
  keep_metadata = false;
  min_depth = 0;
  max_depth = 2 ^ 64 - 1;
  parallelism = serial;
}

abbrev pub with_sort : Bool → Options → Options
with_sort on o = record o { sort = on }

abbrev pub with_skip_hidden : Bool → Options → Options
with_skip_hidden on o = record o { skip_hidden = on }

abbrev pub with_follow_links : Bool → Options → Options
with_follow_links on o = record o { follow_links = on }

abbrev pub with_same_file_system : Bool → Options → Options
with_same_file_system on o = record o { same_file_system = on }

abbrev pub with_keep_metadata : Bool → Options → Options
with_keep_metadata on o = record o { keep_metadata = on }

-- the least depth, lowered to the greatest
abbrev pub with_min_depth : ℕ → Options → Options
with_min_depth depth o = record o { min_depth = min depth o.max_depth }

-- the greatest depth, raised to the least; a walk that reads at most one directory is serial
abbrev pub with_max_depth : ℕ → Options → Options
with_max_depth depth o =
    let raised : ℕ = max depth o.min_depth in
    record o { max_depth = raised; parallelism = (if nat_lt raised 2 then serial else o.parallelism) }

abbrev pub with_parallelism : Parallelism → Options → Options
with_parallelism p o = record o { parallelism = p }

-- Readings by these options are the same: the least depth, and how directories are read, don't count.
pub record ReadsAs (these others : Options) : Type 0 where
  pub sort : these.sort ≡ others.sort
  pub skip_hidden : these.skip_hidden ≡ others.skip_hidden
  pub follow_links : these.follow_links ≡ others.follow_links
  pub same_file_system : these.same_file_system ≡ others.same_file_system
  pub keep_metadata : these.keep_metadata ≡ others.keep_metadata
  pub max_depth : these.max_depth ≡ others.max_depth

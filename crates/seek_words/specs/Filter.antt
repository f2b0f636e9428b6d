-- What a filter looks for.
use Rattle.std.specs.Prelude.{ℕ, Bool, List, option_map}
use Rattle.jwalk_model.specs.FileSystem.{Functions}
use Rattle.seek_words.specs.Empty.{bare_in}
use Rattle.seek_words.specs.Sought.{Sought}
use Rattle.seek_words.specs.Subject.{front_of}
use Rattle.seek_words.specs.Wanted.{wants_of}
use Rattle.seek_words.specs.declared.filter.Filter.{Filter}

-- what a filter looks for over a file system
abbrev pub sought_of : {T : Type 0} → (T → List ℕ → Bool → Bool) → Functions → Filter T → Sought
sought_of takes fs filter = record {
  wanted = wants_of filter.wanted;
  takes = takes filter.test;
  front = option_map front_of filter.path;
  prunes = filter.prunes;
  bare = bare_in fs;
}

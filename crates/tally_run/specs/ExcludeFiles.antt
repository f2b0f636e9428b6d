-- Files with lines that say what doesn't count.
use Rattle.std.specs.Prelude.{◌≡◌, ℕ, List, ◌++◌, map, Ok}
use Rattle.jwalk_ignore.specs.jwalk_ignore_rules.declared.rules.texts.Texts as Texts
use Rattle.program_parts.specs.Values.{texts_of}
use Rattle.tally_words.specs.declared.asked.Asked.{Asked}

-- The second call is the first, where the lines of these texts come before its own.
pub record Includes (asked : Asked) (texts : List (List ℕ)) (all : Asked) : Type 0 where
  pub same : all ≡ record asked { excludes = all.excludes }
  pub lines : texts_of all.excludes.items ≡ texts ++ texts_of asked.excludes.items

-- The same with the lines of the files that are named: they are those of the files, if what is read always returns the same.
pub record IncludesFiles {X : Type 0} (rules : Texts.Ghosts X) (texts : X) (asked all : Asked) : Type 0 where
  pub read : List (List ℕ)
  pub included : Includes asked read all
  pub whole : rules.IsFixed texts → map ((rules.functions texts).bytes_of) (texts_of asked.exclude_files.items) ≡ map Ok read

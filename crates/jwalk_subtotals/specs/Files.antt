-- Which files were counted.
use Rattle.std.specs.Prelude.{List, Option}
use Rattle.jwalk.specs.jwalk_model.declared.metadata.Identity.{Identity}
use Rattle.jwalk_subtotals.specs.declared.files.Files.{Files}
use Rattle.jwalk_subtotals.specs.Counted.{HaveSame, with_file}

-- the files, in any order
abbrev pub files_of : {A : Type 0} → Files A → List Identity
files_of s = s.known.keys

-- The second list has these files: those of the first and one more, if it is known.
abbrev pub AreWith : Option Identity → List Identity → List Identity → Type 0
AreWith file old new = HaveSame new (with_file file old)

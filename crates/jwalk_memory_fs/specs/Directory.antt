-- What contracts see of a directory.
use Rattle.std.specs.Prelude.{map, string_bytes}
use Rattle.jwalk_memory_fs.specs.declared.directory.Directory.{Directory}
use Rattle.jwalk_memory_fs.specs.Child.{child_seen}
use Rattle.jwalk_memory_fs.specs.Branch.{Branch}

abbrev pub branch : {A : Type 0} → Directory A → Branch
branch d = record { parent = d.parent; children = map (λ e. (string_bytes e.0, child_seen e.1)) d.children.entries; denied = d.denied }

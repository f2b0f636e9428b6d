-- The types of entries.
use Rattle.std.specs.Prelude.{Bool, true, false}
use Rattle.jwalk_model.specs.declared.file_type.FileType.{FileType}
use Rattle.jwalk_model.specs.declared.file_type.FileType.TheVariants.{Dir, File, Symlink, Other}

-- whether it is a directory
abbrev pub is_dir : FileType → Bool
is_dir Dir = true
is_dir File = false
is_dir Symlink = false
is_dir Other = false

-- whether it is a regular file
abbrev pub is_file : FileType → Bool
is_file Dir = false
is_file File = true
is_file Symlink = false
is_file Other = false

-- whether it is a symbolic link
abbrev pub is_symlink : FileType → Bool
is_symlink Dir = false
is_symlink File = false
is_symlink Symlink = true
is_symlink Other = false

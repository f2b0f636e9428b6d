-- What is compared of two entries at the same path.
use Rattle.std.specs.Prelude.{Bool, not, ◌&&◌, ◌||◌, ◌==◌}
use Rattle.std.specs.Ordering.{int_eq}
use Rattle.jwalk_model.specs.declared.file_type.FileType.{FileType}
use Rattle.jwalk_model.specs.declared.file_type.FileType.TheVariants.{Dir, File, Symlink, Other}
use Rattle.jwalk_model.specs.declared.metadata.Moment.{Moment}
use Rattle.jwalk_model.specs.FileType.{is_dir, is_file, is_symlink}
use Rattle.jwalk_changes.specs.declared.facts.Facts.{Facts}
use Rattle.jwalk_changes.specs.declared.facts.Which.{Which}
use Rattle.jwalk_changes.specs.Differ.{differ}

-- whether two types are the same
abbrev pub same_type : FileType → FileType → Bool
same_type Dir t = is_dir t
same_type File t = is_file t
same_type Symlink t = is_symlink t
same_type Other t = not (is_dir t || is_file t || is_symlink t)

-- whether two moments are the same
abbrev pub same_moment : Moment → Moment → Bool
same_moment a b = int_eq a.seconds b.seconds && (a.nanoseconds == b.nanoseconds)

-- which facts of two entries differ: length and time of modification count only where neither is a directory
abbrev pub which : Facts → Facts → Which
which a b = record {
  file_type = not (same_type a.file_type b.file_type);
  len = not (is_dir a.file_type || is_dir b.file_type) && differ (λ m n. m == n) a.len b.len;
  modified = not (is_dir a.file_type || is_dir b.file_type) && differ same_moment a.modified b.modified;
  inode = differ (λ m n. m == n) a.inode b.inode;
}

-- whether any of them differs
abbrev pub is_any : Which → Bool
is_any w = w.file_type || w.len || w.modified || w.inode

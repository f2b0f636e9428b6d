-- Which directory it is, and when it last changed.
use Rattle.std.specs.Prelude.{◌+ℤ◌, ◌<ℤ◌, pos, Option, Some, None, if◌then◌else◌}
use Rattle.jwalk_model.specs.FileType.{is_dir}
use Rattle.jwalk_model.specs.Metadata.{type_of, details_of, is_known}
use Rattle.jwalk_model.specs.declared.metadata.Metadata.{Metadata}
use Rattle.jwalk_model.specs.declared.metadata.Details.{Details}
use Rattle.jwalk_model.specs.declared.metadata.Moment.{Moment}
use Rattle.jwalk_indexed_fs.specs.declared.stamp.Stamp.{Stamp}

-- the stamp that details give, where they say which file it is
abbrev pub stamp_in : Option Details → Option Stamp
stamp_in None = None
stamp_in (Some d) = if is_known d.identity then Some (record { identity = d.identity; changed = d.changed }) else None

-- the stamp of what was found, if it is a directory
abbrev pub stamp_of : Metadata → Option Stamp
stamp_of m = if is_dir (type_of m) then stamp_in (details_of m) else None

-- More than two whole seconds lie between the change and a time: no file system's clock is coarser.
abbrev pub IsSettled : Moment → Stamp → Type 0
IsSettled start s = (s.changed.seconds +ℤ pos 2) <ℤ start.seconds

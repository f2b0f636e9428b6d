-- What details are kept as.
use Rattle.std.specs.Prelude.{ℕ, ℤ, pos, Bool, true, false, Option, Some, None, ◌≡◌, refl}
use Rattle.jwalk_model.specs.declared.metadata.Details.{Details}
use Rattle.jwalk_model.specs.declared.metadata.Moment.{Moment}
use Rattle.jwalk_model.specs.declared.packed_details.PackedDetails.{PackedDetails}

-- the point in time of these seconds and nanoseconds
abbrev moment : ℤ → ℕ → Moment
moment seconds nanoseconds = record { seconds = seconds; nanoseconds = nanoseconds }

-- the point in time, where it is known
abbrev moment_if : Bool → Moment → Option Moment
moment_if true m = Some m
moment_if false _ = None

-- the details that are kept so
abbrev pub unpacked : PackedDetails → Details
unpacked p = record {
  identity = p.identity;
  links = p.links;
  blocks = p.blocks;
  modified = moment p.modified_seconds p.modified_nanoseconds;
  accessed = moment p.accessed_seconds p.accessed_nanoseconds;
  changed = moment p.changed_seconds p.changed_nanoseconds;
  created = moment_if p.is_created_known (moment p.created_seconds p.created_nanoseconds);
  mode = p.mode;
  uid = p.uid;
  gid = p.gid;
}

-- whether a time is known
abbrev is_known : Option Moment → Bool
is_known (Some _) = true
is_known None = false

-- the time, or 0 where it isn't known
abbrev moment_or_zero : Option Moment → Moment
moment_or_zero (Some m) = m
moment_or_zero None = moment (pos 0) 0

-- what these details are kept as
abbrev pub packed : Details → PackedDetails
packed d = record {
  identity = d.identity;
  links = d.links;
  blocks = d.blocks;
  modified_seconds = d.modified.seconds;
  accessed_seconds = d.accessed.seconds;
  changed_seconds = d.changed.seconds;
  created_seconds = (moment_or_zero d.created).seconds;
  modified_nanoseconds = d.modified.nanoseconds;
  accessed_nanoseconds = d.accessed.nanoseconds;
  changed_nanoseconds = d.changed.nanoseconds;
  created_nanoseconds = (moment_or_zero d.created).nanoseconds;
  mode = d.mode;
  uid = d.uid;
  gid = d.gid;
  is_created_known = is_known d.created;
}

-- unpacking what was packed gives it again
pub unpacked_packed : (d : Details) → unpacked (packed d) ≡ d
unpacked_packed d i = record d { created = created_again d.created i }
  where
    created_again : (created : Option Moment) → moment_if (is_known created) (moment (moment_or_zero created).seconds (moment_or_zero created).nanoseconds) ≡ created
    created_again (Some m) = refl
    created_again None = refl

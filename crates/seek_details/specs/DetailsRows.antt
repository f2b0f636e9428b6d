-- Details as `ls -ln` writes them in UTC, in columns of fixed widths, row by row.
use Rattle.std.specs.Prelude.{◌≡◌, ℕ, ℤ, pos, Option, None, Some, codes, refl}
use Rattle.std.specs.Fmt.{digits}
use Rattle.jwalk_model.specs.Metadata.{metadata, with_details}
use Rattle.jwalk_model.specs.declared.file_type.FileType.TheVariants.{File, Symlink, Other}
use Rattle.jwalk_model.specs.declared.metadata.Metadata.{Metadata}
use Rattle.jwalk_model.specs.declared.metadata.Moment.{Moment}
use Rattle.seek_details.specs.Date.{clock_text, date_text, part_of, time_text}
use Rattle.seek_details.specs.Details.{details_text}

-- a time within a second
abbrev moment : ℤ → Moment
moment second = record { seconds = second; nanoseconds = 999999999 }

-- metadata with a length, the number of names, a mode, a user, a group, and a time
abbrev known : ℕ → ℕ → ℕ → ℕ → ℕ → ℤ → Option Metadata
known len links mode uid gid second =
    Some (with_details (record {
      identity = record { device = 1; inode = 1 };
      links = links;
      blocks = 0;
      modified = moment second;
      accessed = moment (pos 1);
      changed = moment (pos 1);
      created = None;
      mode = mode;
      uid = uid;
      gid = gid;
    }) (metadata File len))

short_numbers : details_text (known 0 1 33188 0 0 (pos 0)) ≡ codes "-rw-r--r--   1     0     0          0 1970-01-01 00:00:00 "
unfolding details_text digits part_of clock_text date_text time_text
short_numbers = refl

a_directory : details_text (known 4096 12 17407 1000 100 (pos 1735689599)) ≡ codes "drwxrwxrwt  12  1000   100       4096 2024-12-31 23:59:59 "
unfolding details_text digits part_of clock_text date_text time_text
a_directory = refl

long_numbers : details_text (known 12345678901 1234 35309 165536 100000 (pos 951782400)) ≡ codes "-rwsr-xr-x 1234 165536 100000 12345678901 2000-02-29 00:00:00 "
unfolding details_text digits part_of clock_text date_text time_text
long_numbers = refl

nothing_known : details_text None ≡ codes "??????????   ?     ?     ?          ?                   ? "
unfolding details_text
nothing_known = refl

a_length_known : details_text (Some (metadata File 17)) ≡ codes "-?????????   ?     ?     ?         17                   ? "
unfolding details_text digits part_of clock_text date_text time_text
a_length_known = refl

a_link : details_text (Some (metadata Symlink 0)) ≡ codes "l?????????   ?     ?     ?          0                   ? "
unfolding details_text digits part_of clock_text date_text time_text
a_link = refl

another_type : details_text (Some (metadata Other 0)) ≡ codes "??????????   ?     ?     ?          0                   ? "
unfolding details_text digits part_of clock_text date_text time_text
another_type = refl

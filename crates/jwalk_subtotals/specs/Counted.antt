-- What each of a list of answers counts.
use Rattle.std.specs.Prelude.{◌≡◌, ℕ, ◌*◌, nat_lt, Bool, true, false, ◌&&◌, ◌||◌, List, [], ◌∷◌, Option, Some, None, Ok, Err, option_and_then, if◌then◌else◌}
use Rattle.std.specs.List.{list_any}
use Rattle.jwalk.specs.jwalk_model.declared.file_type.FileType.{FileType}
use Rattle.jwalk.specs.jwalk_model.declared.metadata.Metadata.{Metadata}
use Rattle.jwalk.specs.jwalk_model.declared.metadata.Details.{Details}
use Rattle.jwalk.specs.jwalk_model.declared.metadata.Identity.{Identity}
use Rattle.jwalk.specs.jwalk_model.FileType.{is_dir, is_file, is_symlink}
use Rattle.jwalk.specs.jwalk_model.Metadata.{len_of, details_of, is_known, same_file}
use Rattle.jwalk.specs.jwalk_model.Entry.{Entry, Item}
use Rattle.jwalk_usage.specs.Totals.{one_if, is_other, has_failed}
use Rattle.jwalk_usage.specs.Kept.{length_kept}
use Rattle.jwalk_subtotals.specs.declared.subtotal.Subtotal.{Subtotal}
use Rattle.jwalk_subtotals.specs.declared.options.SubtotalOptions.{SubtotalOptions}
use Rattle.jwalk_subtotals.specs.Subtotal.{nothing}

-- the bytes on the disk: the blocks where details are known, and else the length
abbrev allocated : ℕ → Option Details → ℕ
allocated length None = length
allocated length (Some d) = 512 * d.blocks

-- the bytes that count: the length if lengths are asked for, and else the bytes on the disk
abbrev pub size_in : Bool → ℕ → Option Details → ℕ
size_in apparent length details = if apparent then length else allocated length details

-- the bytes of metadata that are kept, and 0 if none are
abbrev pub size_kept : Bool → Option Metadata → ℕ
size_kept apparent None = 0
size_kept apparent (Some m) = size_in apparent (len_of m) (details_of m)

-- which file it is, if another name may lead to it: where links are followed, or if it has more than one
abbrev pub shared_in : Bool → Option Details → Option Identity
shared_in follows None = None
shared_in follows (Some d) = if is_known d.identity && (follows || nat_lt 1 d.links) then Some d.identity else None

-- whether the directories above an entry are kept, as where links are followed
abbrev pub is_kept : List (List ℕ) → Bool
is_kept [] = false
is_kept (path ∷ above) = true

-- whether one of these files is this one
abbrev pub is_among : List Identity → Identity → Bool
is_among files i = list_any (same_file i) files

-- whether it is known and one of these
abbrev pub is_repeated : List Identity → Option Identity → Bool
is_repeated files None = false
is_repeated files (Some i) = is_among files i

-- these files and one more, if it is known
abbrev pub with_file : Option Identity → List Identity → List Identity
with_file None files = files
with_file (Some i) files = i ∷ files

-- The lists have the same files.
abbrev pub HaveSame : List Identity → List Identity → Type 0
HaveSame files others = (i : Identity) → is_among files i ≡ is_among others i

-- what an entry of this type counts by its type alone
abbrev pub counted_by_type : FileType → Subtotal
counted_by_type type = record nothing { files = one_if (is_file type); dirs = one_if (is_dir type); links = one_if (is_symlink type); others = one_if (is_other type) }

-- what an error counts
abbrev pub one_error : Subtotal
one_error = record nothing { errors = 1 }

-- An answer, and what it counts by itself.
abbrev pub Weighed : Type 0 → Type 0 → Type 0
Weighed R E = Item R E × Subtotal

module _ {R E : Type 0} where
  -- which file an entry with these details is, if it is no directory and its size is counted once only
  abbrev pub file_counted : SubtotalOptions → Option Details → Entry R E → Option Identity
  file_counted options details e = if options.each_name || is_dir e.file_type then None else shared_in (is_kept e.ancestors) details

  -- the same by what it keeps
  abbrev pub counted_once : SubtotalOptions → Entry R E → Option Identity
  counted_once options e = file_counted options (option_and_then details_of e.seen) e

  -- what an entry of these bytes and this length counts by itself: its size and that of a file unless they were counted before, its type, and the error of its directory
  abbrev pub own_sized : ℕ → ℕ → Bool → Entry R E → Subtotal
  own_sized bytes length again e = record (counted_by_type e.file_type) {
    bytes = if again then 0 else bytes;
    file_bytes = if again then 0 else (if is_file e.file_type then length else 0);
    errors = one_if (has_failed e.read_children);
  }

  -- the same by what it keeps
  abbrev pub own : Bool → Bool → Entry R E → Subtotal
  own apparent again e = own_sized (size_kept apparent e.seen) (length_kept e.seen) again e

  -- each answer of a list with what it counts by itself, where these files were counted before
  abbrev pub weighed : SubtotalOptions → List Identity → List (Item R E) → List (Weighed R E)
  weighed options files [] = []
  weighed options files (Ok e ∷ l) =
      (Ok e, own options.apparent (is_repeated files (counted_once options e)) e) ∷ weighed options (with_file (counted_once options e) files) l
  weighed options files (Err f ∷ l) = (Err f, one_error) ∷ weighed options files l

  -- the files that are counted behind these answers, where these files were counted before
  abbrev pub files_after : SubtotalOptions → List Identity → List (Item R E) → List Identity
  files_after options files [] = files
  files_after options files (Ok e ∷ l) = files_after options (with_file (counted_once options e) files) l
  files_after options files (Err f ∷ l) = files_after options files l

-- The text that is printed for a walk's answers.
use Rattle.std.specs.Prelude.{◌≡◌, ◌⊎◌, ℕ, ◌==◌, Bool, true, false, not, ◌&&◌, List, [], Option, Some, Result, Ok, Err, map, flat_map, is_some, option_and_then, if◌then◌else◌}
use Rattle.std.specs.List.{list_all, list_any}
use Rattle.std.specs.Iterator.{Drains, Yields}
use Rattle.std.specs.Io.KnownBytes.{Appends}
use Rattle.jwalk_job.specs.declared.dir_entry.DirEntry.{DirEntry}
use Rattle.jwalk_job.specs.declared.error.Error.{Error}
use Rattle.jwalk_job.specs.Entry.{item}
use Rattle.jwalk_model.specs.Entry.{Entry, Item}
use Rattle.seek_words.specs.Sought.{Sought, is_found, IfEmpties}
use Rattle.seek_words.specs.Layout.{Form, form_line}
use Rattle.seek_words.specs.Paint.{IfAsksLinks}
use Rattle.seek_found.specs.Limit.{is_hit, left_after, up_to}
use Rattle.seek_found.specs.Prune.{unpruned}

-- The disk is asked about empty entries that are looked for, and where links lead, only if this holds.
abbrev pub IfAsked : Type 0 → Sought → Form → Type 0
IfAsked fixed sought form = IfEmpties fixed sought × IfAsksLinks fixed form.painting

module _ {R E : Type 0} where
  -- the line of an entry, if it is looked for
  abbrev pub entry_line : Sought → Form → Entry R E → List ℕ
  entry_line sought form e =
      if is_found sought e.depth e.file_type e.parent_path e.file_name e.seen then form_line form e.file_type e.seen e.parent_path e.file_name else []

  -- the text that is printed for an answer
  abbrev pub found_line : Sought → Form → Item R E → List ℕ
  found_line sought form (Ok e) = entry_line sought form e
  found_line sought form (Err f) = []

  -- the text that is printed for answers, one after another
  abbrev pub found_lines : Sought → Form → List (Item R E) → List ℕ
  found_lines sought form = flat_map (found_line sought form)

  -- whether an entry is a root that is neither a directory nor a link to one
  abbrev pub is_flat_root : Entry R E → Bool
  is_flat_root e = e.depth == 0 && not (is_some e.read_children)

  -- whether an answer is an entry whose directory was read, if the walk reads it; a root must have a directory
  abbrev pub is_clean : Item R E → Bool
  is_clean (Ok e) = not (is_flat_root e) && not (is_some (option_and_then (λ children. children.error) e.read_children))
  is_clean (Err f) = false

-- The line of each of these answers that is looked for is printed, and all answers are clean.
pub record PrintsClean {R E : Type 0} (answers : List (Item R E)) (sought : Sought) (form : Form) (old new : Option (List ℕ)) : Type 0 where
  pub lines : Appends old new (found_lines sought form answers)
  pub clean : list_all is_clean answers ≡ true

-- If all answers that count are clean, the first of these answers count, up to the limit: they are clean, and the line of
-- each that is looked for is printed. `left` is how many more may be found before, and `left'` after it. One of the
-- answers is looked for, clean or not, if one more may be found before, and none after it.
pub record PrintsFirst {R E : Type 0} (answers : List (Item R E)) (sought : Sought) (form : Form) (left left' : Option ℕ) (old new : Option (List ℕ)) (clean : Bool) : Type 0 where
  pub first : clean ≡ true → PrintsClean (up_to sought left answers) sought form old new
  pub limit : clean ≡ true → left' ≡ left_after sought left (up_to sought left answers)
  pub one : left ≡ Some 1 → left' ≡ Some 0 → list_any (is_hit sought) answers ≡ true

module _ {S C A R E : Type 0} (steps : S → Option (Result (DirEntry C A R E) (Error A)) → S → Type 0) (answers : S) where
  -- The iterator was called until it ended or the limit was reached. The line of each answer that is looked for was
  -- printed, and the result says whether all answers are clean, without those below a find if these aren't looked for.
  -- `left` is how many more may be found before, and `left'` after it.
  pub record PrintsFound (sought : Sought) (form : Form) (left left' : Option ℕ) (old new : Option (List ℕ)) (clean : Bool) : Type 0 where
    pub answered : List (Result (DirEntry C A R E) (Error A))
    pub calls : Drains steps answers answered ⊎ ((left' ≡ Some 0) × ((end : S) × Yields steps answers answered end))
    pub within : up_to sought left (unpruned sought (map item answered)) ≡ unpruned sought (map item answered)
    pub limit : left' ≡ left_after sought left (unpruned sought (map item answered))
    pub lines : Appends old new (found_lines sought form (unpruned sought (map item answered)))
    pub all : clean ≡ list_all is_clean (unpruned sought (map item answered))

-- What a search prints, if there is no error.
use Rattle.std.specs.Prelude.{◌≡◌, ℕ, Bool, List, [], Option, Some}
use Rattle.std.specs.Io.KnownBytes.{append_known}
use Rattle.std.specs.declared.clone.Clone as Clone
use Rattle.std.specs.declared.default.Default as Default
use Rattle.jwalk.specs.jwalk_model.Counted.{Worth}
use Rattle.jwalk.specs.jwalk_model.Entry.{Item}
use Rattle.jwalk.specs.jwalk_model.FileSystem.{Functions}
use Rattle.jwalk.specs.jwalk_model.Walk.{whole_walk}
use Rattle.jwalk.specs.jwalk_fs.declared.file_system.FileSystem as FileSystem
use Rattle.jwalk_job.specs.declared.process_read_dir.ProcessReadDir as ProcessReadDir
use Rattle.jwalk.specs.jwalk_job.Given.{Given}
use Rattle.jwalk.specs.jwalk_job.Job.{IsSteady}
use Rattle.jwalk.specs.WalkDir.{callback_of, file_system_of, job_for, root_of, state_of}
use Rattle.jwalk.specs.declared.walk_dir.WalkDirGeneric.{WalkDirGeneric}
use Rattle.seek_words.specs.Filter.{sought_of}
use Rattle.seek_words.specs.Sought.{Sought}
use Rattle.seek_words.specs.Lines.{gathered_of, form_of}
use Rattle.seek_found.specs.Found.{IfAsked, PrintsFirst}
use Rattle.seek_found.specs.Prune.{unpruned}
use Rattle.seek_found.specs.Roots.{PrintsSuch}
use Rattle.seek_found.specs.SoughtTest.{takes_of}
use Rattle.seek_found.specs.declared.printer.Printer.{Printer}
use Rattle.seek_found.specs.declared.sought_test.SoughtTest.{SoughtTest}

-- A printer still looks for the same, and writes lines in the same form.
pub record StaysAs (fs : Functions) (old new : Printer SoughtTest) : Type 0 where
  pub sought : sought_of takes_of fs new.filter ≡ sought_of takes_of fs old.filter
  pub form : form_of fs new.lines ≡ form_of fs old.lines

-- If there was no error, the line of each of the first of these answers that a printer looks for is written, or gathered
-- by it, up to its limit. `answers` says which they are, by what it looks for over a file system.
abbrev pub PrintsAll : {R E : Type 0} → Functions → (Sought → List (Item R E)) → Printer SoughtTest → Printer SoughtTest → Option (List ℕ) → Option (List ℕ) → Bool → Type 0
PrintsAll fs answers old new before after clean =
    PrintsFirst (answers (sought_of takes_of fs old.filter)) (sought_of takes_of fs old.filter) (form_of fs old.lines) old.left new.left
    (append_known before (gathered_of old.lines)) (append_known after (gathered_of new.lines)) clean

-- This holds of all that a walk yields, whatever its ghosts are, without what is below a find if that isn't looked for.
-- The disk that is asked about directories and links always answers the same.
abbrev pub PrintsWalk : {C S P A W R E : Type 0} → FileSystem.Ghosts S → ProcessReadDir.Ghosts P C A R E → Clone.Ghosts R → Default.Ghosts E → S → WalkDirGeneric C S P A W R E
    → Printer SoughtTest → Printer SoughtTest → Option (List ℕ) → Option (List ℕ) → Bool → Type 0
PrintsWalk {R = R} {E = E} files process clone defaults disk walk old new before after clean =
    files.IsFixed disk → (given : Given R E) → IsSteady files process clone defaults (file_system_of walk) (callback_of walk) given
    → PrintsAll (files.functions disk) (λ sought. unpruned sought (whole_walk (job_for files given walk) (root_of walk) (given.read_dir_state (state_of walk)))) old new before after clean

-- The line of each answer that a printer looks for is written, or gathered by it, up to its limit, and the result says
-- whether all answers are clean. `are` says which answers are possible, by what it looks for: all, unless the limit was
-- reached. If empty entries are looked for, or the disk is asked where links lead, it always answers the same.
abbrev pub PrintsThose : Type 0 → Functions → (Sought → Type 0 → List (Item Worth Worth) → Type 0) → Printer SoughtTest → Printer SoughtTest → Option (List ℕ) → Option (List ℕ) → Bool → Type 0
PrintsThose fixed fs are old new before after clean =
    IfAsked fixed (sought_of takes_of fs old.filter) (form_of fs old.lines) → PrintsSuch (are (sought_of takes_of fs old.filter) (new.left ≡ Some 0)) (sought_of takes_of fs old.filter) (form_of fs old.lines) old.left new.left
    (append_known before (gathered_of old.lines)) (append_known after (gathered_of new.lines)) clean

-- The same two where a printer that had gathered nothing leaves nothing gathered: all its lines are written.
abbrev pub WritesAll : {R E : Type 0} → Functions → (Sought → List (Item R E)) → Printer SoughtTest → Printer SoughtTest → Option (List ℕ) → Option (List ℕ) → Bool → Type 0
WritesAll fs answers old new before after clean =
    gathered_of old.lines ≡ []
    → PrintsFirst (answers (sought_of takes_of fs old.filter)) (sought_of takes_of fs old.filter) (form_of fs old.lines) old.left new.left before after clean

abbrev pub WritesThose : Type 0 → Functions → (Sought → Type 0 → List (Item Worth Worth) → Type 0) → Printer SoughtTest → Printer SoughtTest → Option (List ℕ) → Option (List ℕ) → Bool → Type 0
WritesThose fixed fs are old new before after clean =
    gathered_of old.lines ≡ [] → IfAsked fixed (sought_of takes_of fs old.filter) (form_of fs old.lines)
    → PrintsSuch (are (sought_of takes_of fs old.filter) (new.left ≡ Some 0)) (sought_of takes_of fs old.filter) (form_of fs old.lines) old.left new.left before after clean

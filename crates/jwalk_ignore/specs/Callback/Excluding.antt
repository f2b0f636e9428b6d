-- What lines of an ignore file leave out of lists.
use Rattle.std.specs.Prelude.{◌≡◌, ℕ, Bool, true, false, not, ◌&&◌, ◌||◌, List, [], ◌∷◌, ◌++◌, flat_map, length, Option, None, Some, Ok, Err, if◌then◌else◌, ◌==◌}
use Rattle.std.specs.List.{filter}
use Rattle.std.specs.Option.{option_map_or}
use Rattle.jwalk.specs.jwalk_model.Entry.{Item}
use Rattle.jwalk.specs.jwalk_model.FileType.{is_dir}
use Rattle.jwalk.specs.jwalk_model.Job.{KeepsDepthsOf, Processing}
use Rattle.jwalk.specs.jwalk_model.Counted.{Worth}
use Rattle.jwalk.specs.jwalk_job.Given.{Given}
use Rattle.jwalk_ignore.specs.Rules.Chain.{is_ignored}
use Rattle.jwalk_ignore.specs.Rules.Line.{patterns_of}
use Rattle.jwalk_ignore.specs.Callback.Failed.{behind, failed_path, is_hidden_path}
use Rattle.jwalk_ignore.specs.Callback.MadeDepths.{filter_at}
use Rattle.jwalk_ignore.specs.Callback.Settings.{patterns_in}
use Rattle.jwalk_ignore.specs.Rules.Matching.{patterns_say}
use Rattle.jwalk_ignore.specs.Pattern.{Pattern}
use Rattle.jwalk_ignore.specs.declared.callback.excluding.Excluding.{Excluding}

-- the patterns, how long the root's path is, and whether errors of what they leave out are dropped, and those of hidden names
pub record Excluded : Type 0 where
  pub patterns : List Pattern
  pub root_len : ℕ
  pub drops_errors : Bool
  pub drops_hidden : Bool

-- lines, as the text of a file
abbrev pub lines_text : List (List ℕ) → List ℕ
lines_text = flat_map (λ line. line ++ 10 ∷ [])

-- what is left out by a file's bytes, as if it lay in the folder with this path
abbrev pub excluded_in : List ℕ → List ℕ → Excluded
excluded_in text folder = record { patterns = patterns_of text; root_len = length folder; drops_errors = false; drops_hidden = false }

-- what is left out by lines, below a root with this path
abbrev pub excluded_by : List (List ℕ) → List ℕ → Excluded
excluded_by lines = excluded_in (lines_text lines)

-- what a callback leaves out
abbrev pub excluded_of : Excluding → Excluded
excluded_of it = record { patterns = patterns_in it.rules; root_len = it.root_len; drops_errors = it.drops_errors; drops_hidden = it.drops_hidden }

-- where the names of a folder begin: its path behind the root, ended by a slash
abbrev pub place_of : ℕ → List ℕ → List ℕ
place_of root_len folder = if length (behind root_len folder) == 0 then [] else behind root_len folder ++ 47 ∷ []

-- whether patterns leave out a path, of a directory or of another file
abbrev pub leaves_out : List Pattern → List ℕ → Bool → Bool
leaves_out patterns path is_dir = is_ignored (patterns_say patterns path is_dir)

-- whether they leave it out whatever is there
abbrev pub leaves_out_any : List Pattern → List ℕ → Bool
leaves_out_any patterns path = leaves_out patterns path true && leaves_out patterns path false

-- whether an error at a path is dropped: of a hidden name, or of one that is left out whatever is there
abbrev pub drops_at : Excluded → List ℕ → Bool
drops_at excluded path =
    (excluded.drops_hidden && is_hidden_path path) || (excluded.drops_errors && leaves_out_any excluded.patterns (behind excluded.root_len path))

-- whether an item stays that is in a folder with this place
abbrev pub is_included : {R E : Type 0} → Excluded → List ℕ → Item R E → Bool
is_included excluded place (Ok e) = not (leaves_out excluded.patterns (place ++ e.file_name) (is_dir e.file_type))
is_included excluded place (Err f) = not (option_map_or (drops_at excluded) (failed_path f) false)

-- what is made of lists: what is left out is dropped from the list of a directory, and the root's stays
abbrev pub excluding : {R E : Type 0} → Excluded → Processing R E
excluding excluded None path state list = record { state = state; list = list }
excluding excluded (Some depth) path state list =
    record { state = state; list = filter (is_included excluded (place_of excluded.root_len path)) list }

-- The callback makes of lists what is given: what is given leaves out what it does.
abbrev pub Excludes : {R E : Type 0} → Excluded → Given R E → Type 0
Excludes excluded given =
    (depth : Option ℕ) (path : List ℕ) (state : Worth) (list : List (Item Worth Worth)) → given.processed depth path state list ≡ excluding excluded depth path state list

-- Depths stay.
pub excluding-KeepsDepthsOf : {R E : Type 0} (excluded : Excluded) → KeepsDepthsOf {R = R} {E = E} (excluding excluded)
excluding-KeepsDepthsOf excluded None path state list h = h
excluding-KeepsDepthsOf excluded (Some depth) path state list h = filter_at _ (is_included excluded (place_of excluded.root_len path)) list h

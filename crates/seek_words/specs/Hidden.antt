-- Patterns for hidden names.
use Rattle.std.specs.Prelude.{ℕ, ◌==◌, Bool, false, not, ◌&&◌, ◌||◌, List, [], ◌∷◌, take, bytes_eq, if◌then◌else◌}
use Rattle.jwalk_model.specs.Entry.{is_hidden}
use Rattle.seek_words.specs.declared.asked.Asked.{Asked}

-- whether a text begins with `^\.`
abbrev pub begins_escaped_dot : List ℕ → Bool
begins_escaped_dot text = bytes_eq (take 3 text) (94 ∷ 92 ∷ 46 ∷ [])

-- whether hidden names don't come, but a pattern for names can find no others, by its beginning
abbrev pub finds_none_shown : Asked → Bool
finds_none_shown asked =
    not asked.hidden && (not asked.full_path && (not asked.fixed && (if asked.glob then is_hidden asked.pattern.now else begins_escaped_dot asked.pattern.now)))

-- whether a byte repeats what is in front of it in a regular expression
abbrev pub is_repeat : ℕ → Bool
is_repeat byte = (byte == 42) || ((byte == 43) || ((byte == 63) || (byte == 123)))

-- whether a text begins with a dot, and then something else than what repeats it
abbrev pub begins_as_name : List ℕ → Bool
begins_as_name (dot ∷ next ∷ rest) = (dot == 46) && not (is_repeat next)
begins_as_name text = false

-- whether hidden names don't come, and a pattern for names that isn't a glob begins as they do
abbrev pub may_mean_hidden : Asked → Bool
may_mean_hidden asked = not asked.hidden && (not asked.full_path && (not asked.glob && begins_as_name asked.pattern.now))

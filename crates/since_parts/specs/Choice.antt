-- What of a tree is compared, in words.
use Rattle.std.specs.Prelude.{ℕ, ◌-◌, ◌^◌, ◌==◌, Bool, not, ◌&&◌, ◌||◌, List, [], ◌∷◌, ◌++◌, length, map, Option, Some, None, codes, decimal, string_bytes, unwrap_or, if◌then◌else◌}
use Rattle.since_parts.specs.declared.choice.Choice.{Choice}

-- the greatest depth that is chosen: any, if there is none
abbrev pub depth_of : Choice → ℕ
depth_of choice = unwrap_or choice.depth (2 ^ 64 - 1)

-- a word, if it is chosen
abbrev pub words_if : Bool → List ℕ → List (List ℕ)
words_if is_chosen word = if is_chosen then word ∷ [] else []

-- the word for a greatest depth
abbrev pub depth_words : Option ℕ → List (List ℕ)
depth_words None = []
depth_words (Some depth) = (codes "--max-depth=" ++ decimal depth) ∷ []

-- the word for a line of an ignore file
abbrev pub line_word : List ℕ → List ℕ
line_word line = codes "--exclude=" ++ line

-- the words for what is compared: whether hidden names and other file systems are left out, the greatest depth, lines, and whether ignore files count
abbrev pub words_by : Bool → Bool → Option ℕ → List (List ℕ) → Bool → List (List ℕ)
words_by hidden elsewhere depth lines ignore =
    words_if hidden (codes "--exclude-hidden") ++ words_if elsewhere (codes "--one-file-system") ++ depth_words depth ++ map line_word lines ++ words_if ignore (codes "--ignore")

-- the lines that are chosen
abbrev pub lines_in : Choice → List (List ℕ)
lines_in c = map string_bytes c.excludes.items

-- the words for what is compared, as a snapshot keeps them
abbrev pub words_of : Choice → List (List ℕ)
words_of c = words_by c.exclude_hidden c.one_file_system c.depth (lines_in c) c.ignore

-- whether names are left out by rules
abbrev pub has_rules : Choice → Bool
has_rules c = c.ignore || not (length c.excludes.items == 0)

-- whether of a directory that is read no name is left out: neither hidden ones, nor any by rules
abbrev pub keeps_names : Choice → Bool
keeps_names c = not c.exclude_hidden && not (has_rules c)

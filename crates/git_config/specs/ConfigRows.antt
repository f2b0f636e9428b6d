-- Configurations, row by row.
use Rattle.std.specs.Prelude.{◌≡◌, ℕ, List, [], ◌∷◌, ◌++◌, codes, Option, Some, None, refl}
use Rattle.git_config.specs.Config.{config_in, Config}

-- a configuration of one setting, on this line
abbrev one : List ℕ → Option (List ℕ) → ℕ → Config
one name value line = record { settings = record { name = name; value = value; line = line } ∷ []; bad = None }

abbrev bad : ℕ → Config
bad line = record { settings = []; bad = Some line }

abbrev core : Option (List ℕ) → ℕ → Config
core = one (codes "core.excludesfile")

row_empty : config_in [] ≡ record { settings = []; bad = None }
row_empty = refl

row_lines : config_in (codes "[core]\n\texcludesFile = ~/x\n") ≡ core (Some (codes "~/x")) 2
row_lines = refl

row_one_line : config_in (codes "[core] excludesFile = ~/x") ≡ core (Some (codes "~/x")) 1
row_one_line = refl

row_mark : config_in (239 ∷ 187 ∷ 191 ∷ codes "[Core]EXCLUDESFILE=x") ≡ core (Some (codes "x")) 1
row_mark = refl

row_returns : config_in (codes "[core]\r\nexcludesfile = x\r\n") ≡ core (Some (codes "x")) 2
row_returns = refl

row_quotes : config_in (codes "[core]excludesfile = \"a # b\"  c ; d") ≡ core (Some (codes "a # b  c")) 1
row_quotes = refl

row_quotes_within : config_in (codes "[core]excludesfile = a\" \"b\"\"") ≡ core (Some (codes "a b")) 1
row_quotes_within = refl

row_escapes : config_in (codes "[core]excludesfile = \\\"\\\\\\t\\n\\b") ≡ core (Some (34 ∷ 92 ∷ 9 ∷ 10 ∷ 8 ∷ [])) 1
row_escapes = refl

row_continued : config_in (codes "[core]\nexcludesfile = a \\\n  b  \n") ≡ core (Some (codes "a   b")) 3
row_continued = refl

row_continued_in_quotes : config_in (codes "[core]\nexcludesfile = \"a\\\nb\"") ≡ core (Some (codes "ab")) 3
row_continued_in_quotes = refl

row_spaces : config_in (codes "[core]excludesfile \t= \t a b\tc \t\n") ≡ core (Some (codes "a b\tc")) 1
row_spaces = refl

row_vertical_tab : config_in (codes "[core]excludesfile = a" ++ 11 ∷ []) ≡ core (Some (codes "a" ++ 11 ∷ [])) 1
row_vertical_tab = refl

row_comments : config_in (codes "# [core]\n; x\n[core] ; y\nexcludesfile = a#b\n") ≡ core (Some (codes "a")) 4
row_comments = refl

row_empty_value : config_in (codes "[core]excludesfile =\n") ≡ core (Some []) 1
row_empty_value = refl

row_no_value : config_in (codes "[core]\nexcludesfile\n") ≡ core None 2
row_no_value = refl

row_subsection : config_in (codes "[core \"X\\\"\\y\"]excludesfile = a") ≡ one (codes "core.X\"y.excludesfile") (Some (codes "a")) 1
row_subsection = refl

row_dotted : config_in (codes "[core.X]excludesfile = a") ≡ one (codes "core.x.excludesfile") (Some (codes "a")) 1
row_dotted = refl

row_two_headers : config_in (codes "[core] [user] excludesfile = a") ≡ one (codes "user.excludesfile") (Some (codes "a")) 1
row_two_headers = refl

row_no_section : config_in (codes "excludesfile = a") ≡ one (codes "excludesfile") (Some (codes "a")) 1
row_no_section = refl

row_bad_key : config_in (codes "[core]\n1x = a") ≡ bad 2
row_bad_key = refl

row_bad_name : config_in (codes "[core]\n\nx_y = a") ≡ bad 3
row_bad_name = refl

row_bad_behind_name : config_in (codes "[core]\nx y") ≡ bad 2
row_bad_behind_name = refl

row_bad_escape : config_in (codes "[core]\nx = \\a") ≡ bad 2
row_bad_escape = refl

row_bad_quote : config_in (codes "[core]\nx = \"a\n\"\n") ≡ bad 2
row_bad_quote = refl

row_bad_quote_at_end : config_in (codes "[core]\nx = \"a\\") ≡ bad 3
row_bad_quote_at_end = refl

row_bad_header : config_in (codes "\n[core") ≡ bad 3
row_bad_header = refl

row_bad_header_line : config_in (codes "\n[core\n") ≡ bad 2
row_bad_header_line = refl

row_bad_empty_header : config_in (codes "[]\n") ≡ bad 1
row_bad_empty_header = refl

row_bad_subsection : config_in (codes "[core x]\n") ≡ bad 1
row_bad_subsection = refl

row_bad_behind_subsection : config_in (codes "[core \"x\"\n]\n") ≡ bad 2
row_bad_behind_subsection = refl

row_bad_behind_settings : config_in (codes "[core]excludesfile = a\n=\n")
    ≡ record { settings = record { name = codes "core.excludesfile"; value = Some (codes "a"); line = 1 } ∷ []; bad = Some 2 }
row_bad_behind_settings = refl

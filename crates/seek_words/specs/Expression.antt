-- The regular expression of a pattern.
use Rattle.std.specs.Prelude.{true}
use Rattle.regex.specs.Patterns.{Config, default_config}
use Rattle.seek_words.specs.declared.case.Case.{Case}
use Rattle.seek_words.specs.Case.{is_ignored}

-- the options of a pattern: its dot takes a line feed, and letters match in either case where that is ignored
abbrev pub config_for : Case → Config
config_for case =
    record default_config { flags = record default_config.flags { case_insensitive = is_ignored case; dot_matches_new_line = true } }

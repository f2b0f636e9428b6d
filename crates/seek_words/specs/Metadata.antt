-- Whether metadata of entries is asked for.
use Rattle.std.specs.Prelude.{◌==◌, Bool, not, ◌&&◌, ◌||◌, is_some, length}
use Rattle.seek_words.specs.Kinds.{names_mode}
use Rattle.seek_words.specs.declared.asked.Asked.{Asked}

-- whether a time is named
abbrev pub names_time : Asked → Bool
names_time asked = is_some asked.changed_within || (is_some asked.changed_before || is_some asked.newer_than)

-- whether details or colors are printed, which a quiet search doesn't
abbrev pub shows_metadata : Asked → Bool
shows_metadata asked = not asked.quiet && (asked.details || asked.colored)

-- whether details or colors are printed, or a size, an owner, a time or emptiness is named, or a type that depends on the mode
abbrev pub needs_metadata : Asked → Bool
needs_metadata asked =
    shows_metadata asked || (not (length asked.sizes.items == 0) || (is_some asked.owner || (names_time asked || (asked.kinds.empty || names_mode asked.kinds))))

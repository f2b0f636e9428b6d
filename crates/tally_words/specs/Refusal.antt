-- Why words are refused.
use Rattle.std.specs.Prelude.{◌≡◌, ℕ, codes, List, Option, None, Some}
use Rattle.clap.specs.Words.{Text, first_of, matches_of}
use Rattle.program_parts.specs.Refusal.{IsRefusedBy, status_of as status_of_common}
use Rattle.tally_words.specs.Command.{tally_app}
use Rattle.tally_words.specs.Conflict.{has_conflict}
use Rattle.tally_words.specs.Threshold.{threshold_in}
use Rattle.tally_words.specs.declared.refusal.Refusal.{Refusal}
use Rattle.tally_words.specs.declared.refusal.Refusal.TheVariants.{Common, NoSize}

-- the status of the program
abbrev pub status_of : Refusal → ℕ
status_of (Common refusal) = status_of_common refusal
status_of (NoSize text) = 2

-- The refusal of a size: the text that is named isn't one.
abbrev pub IsRefusedSize : Option Text → Refusal → Type 0
IsRefusedSize named (NoSize text) = (named ≡ Some text.now) × (threshold_in text.now ≡ None)
IsRefusedSize named (Common refusal) = ⊥

-- Why words are refused: they aren't those of the command line, or ask for a text; options exclude each other; a size is bad; or memory ran out.
abbrev pub IsRefusedFor : List Text → Refusal → Type 0
IsRefusedFor words (Common refusal) = IsRefusedBy tally_app has_conflict words refusal
IsRefusedFor words (NoSize text) = IsRefusedSize (first_of (codes "threshold") (matches_of tally_app words)) (NoSize text)

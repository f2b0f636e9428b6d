-- The command line.
use Rattle.std.proofs.Common.{◌≡◌, ◌∙◌, Bor, Bool, List, [], ◌∷◌, map, ap}
use Rattle.std.proofs.lemmas.List.{map-append}
use Rattle.clap.specs.Words.{AddsAliases, Text, rule_of}
use Rattle.clap.specs.declared.builder.arg.Arg.{Arg}
use Rattle.seek_words.specs.Command.{with_name}

-- one more name of an argument
pub one_named : (old new : Arg) (name : Bor Text) (visible : Bool) → AddsAliases old new ((name, visible) ∷ []) → rule_of new ≡ with_name name.now (rule_of old)
one_named old new name visible adds =
    ap rule_of adds.0
    ∙ ap (λ (names : List Text). record (rule_of old) { aliases = names }) (ap (map (λ alias. alias.0.now)) adds.1 ∙ map-append (λ alias. alias.0.now) old.aliases.items ((name, visible) ∷ []))

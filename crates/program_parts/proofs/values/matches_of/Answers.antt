use Rattle.std.proofs.Common.{map}
use Rattle.clap.specs.Words.{app_of}
use Rattle.program_parts.proofs.MatchFacts.{given}
use Rattle.program_parts.proofs.values.matches_of.Goals as goal

pub returns-clause-read : goal.returns-clause-read
returns-clause-read g c =
    let free = c.requires in
    given (app_of c.args.command) (map g.S.AsStr.text c.args.words.now) free c.try_get_matches_from.result (c.try_get_matches_from.ensures.kinds free) c.try_get_matches_from.ensures.matches

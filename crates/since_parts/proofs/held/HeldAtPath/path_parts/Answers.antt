use Rattle.std.proofs.Common.{sym}
use Rattle.jwalk_changes.proofs.TextFacts.{names_whole}
use Rattle.since_parts.proofs.held.HeldAtPath.path_parts.Goals as goal

pub returns : goal.returns
returns c = sym (names_whole c.args.self.now.folder.now c.args.self.now.name.now.name.now)

use Rattle.std.proofs.Common.{rules}
use Rattle.since_parts.proofs.HeldFacts.{whole_at}
use Rattle.since_parts.proofs.held.Held.is_at.Goals as goal

pub returns-in-Some : goal.returns-in-Some
returns-in-Some c = λ is.
    whole_at c.args.self.now.folder.now c.args.self.now.name.now.name.now c.args.path.now c.in-Some.back.now (search rules) (c.is_behind_slash.ensures.named is) c.in-Some.ensures (c.is_behind_slash.ensures.text is)

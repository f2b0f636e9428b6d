use Rattle.std.proofs.Common.{sym, subst}
use Rattle.jwalk_changes.specs.declared.side.Ahead.{Ahead}
use Rattle.jwalk_changes.specs.Side.{Advances}
use Rattle.jwalk_changes.proofs.SideFacts.{passes_by}
use Rattle.jwalk_changes.proofs.side.Side.advance.Goals as goal

pub returns-clause-passes : goal.returns-clause-passes
returns-clause-passes g c =
    let s = c.args.self.now in
    subst (λ (b : Ahead g.row.T.Denot). Advances g.I.Iterator.next_gives g.T.AtPath.path s (record { items = c.ask-next.new.self.items; ahead = b })) (sym c.replace.ensures.after)
    (passes_by g.I.Iterator.next_gives g.T.AtPath.path s.ahead c.ask-next.result s.items c.ask-next.new.self.items c.requires.goes_on c.requires.ascends c.ask-next.ensures.asks)

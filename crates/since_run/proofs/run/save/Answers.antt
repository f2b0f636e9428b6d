use Rattle.std.proofs.lemmas.Result.{on_ok_weaker}
use Rattle.since_run.proofs.RunFacts.{saves_asked}
use Rattle.since_run.proofs.run.save.Goals as goal

pub returns-clause-saves : goal.returns-clause-saves
returns-clause-saves g c =
    on_ok_weaker c.replace.result
    (saves_asked g.K.Store.Replaces c.args.asked.now c.args.tree.now c.args.found.now c.in_ok-text.text c.args.store.now c.replace.new.store c.in_ok-text.ensures)
    c.replace.ensures.replaces

use Rattle.std.specs.Arc.{arc_value}
use Rattle.jwalk_laws.proofs.OwnReadersFacts.{passes_on, left_reads}
use Rattle.jwalk_laws.proofs.own_readers.OwnReadersReadersStatesNoProcessGlobal.skip.Goals as goal

pub returns-clause-same : goal.returns-clause-same
returns-clause-same g c = λ origin comes. left_reads _ _ _ _ origin (arc_value c.args.self.now.job) c.args.self.now.waiting.items c.pop-skipped.new.self.items c.pop-skipped.result c.pop-skipped.ensures.items comes

pub returns-clause-further : goal.returns-clause-further
returns-clause-further g c = passes_on c.args.self.now.waiting.items c.pop-skipped.new.self.items _ _ c.args.self.now.waiting.ok.0 c.pop-skipped.result c.pop-skipped.ensures.items c.pop-skipped.ensures.cases

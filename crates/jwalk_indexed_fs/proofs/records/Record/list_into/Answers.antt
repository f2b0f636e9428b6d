use Rattle.std.proofs.Common.{◌∙◌, subst}
use Rattle.std.proofs.lemmas.Iterator.Consumers.{YieldsList-from_first, YieldsList-end}
use Rattle.jwalk_fs.specs.Views.{TakesAll}
use Rattle.jwalk_indexed_fs.specs.Records.{list_kept}
use Rattle.jwalk_indexed_fs.proofs.RecordFacts.{name_given, takes_more}
use Rattle.jwalk_indexed_fs.proofs.records.Record.list_into.Goals as goal

pub loop-name-preserved : goal.loop-name-preserved
loop-name-preserved g c =
    takes_more g.K.Sink.Took c.loop-name.yielded (c.in-Some.name, c.in-Some.file_type) c.args.sink.now c.loop-name.sink c.take.new.self c.loop-name.invariant c.in_ok-take.ensures

pub returns : goal.returns
returns g c =
    let starts = c.into_iter-name-iterator.ensures.into_iter_gives ∙ c.iter-name-items.ensures in
    let all = YieldsList-end (YieldsList-from_first name_given (λ left. left) {s = c.into_iter-name-iterator.result} c.args.self.now.names starts) c.loop-name.yielded c.loop-name.name-iterator c.loop-name.yielded_by c.next.result c.next.new.self c.in-None.is c.next.ensures.steps in
    subst (λ l. TakesAll g.K.Sink.Took (list_kept l) c.args.sink.now c.loop-name.sink) all.0 c.loop-name.invariant

use Rattle.jwalk_fs.proofs.SinkFacts.{takes_on}
use Rattle.test_index.proofs.bad_names.OddFileSystem.read_dir_into.Goals as goal

pub returns-clause-taken : goal.returns-clause-taken
returns-clause-taken g c =
    let took = g.K.Sink.Took in
    let two = takes_on took _ _ c.args.sink.now c.take_bad_name.new.self c.take.new.self c.in_ok-take_bad_name.ensures c.in_ok-take.ensures in
    let three = takes_on took _ _ c.args.sink.now c.take.new.self c.take_bad_name-2.new.self two c.in_ok-take_bad_name-2.ensures in
    (_, three, λ fixed. absurd fixed, tt)

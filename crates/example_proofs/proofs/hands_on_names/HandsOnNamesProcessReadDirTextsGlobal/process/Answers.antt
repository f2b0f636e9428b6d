use Rattle.std.proofs.Common.{map}
use Rattle.jwalk.specs.jwalk_job.Entry.{item}
use Rattle.example_proofs.specs.HandsOnNames.{names_handed_on}
use Rattle.jwalk.proofs.GivenFacts.{depth_of_made}
use Rattle.example_proofs.proofs.HandedFacts.{made_by, made_for}
use Rattle.example_proofs.proofs.hands_on_names.HandsOnNamesProcessReadDirTextsGlobal.process.Goals as goal

pub returns-clause-depths : goal.returns-clause-depths
returns-clause-depths c =
    let made = made_by c.args._depth c.args._path.now c.hand_on_all.result c.args.state.now c.args.list.now.items c.keep_directories.new.list.items c.hand_on_all.new.list.items c.keep_directories.ensures c.hand_on_all.ensures in
    depth_of_made names_handed_on c.args._depth c.args._path.now c.hand_on_all.result c.args.state.now c.args.state.now (map item c.args.list.now.items) (map item c.hand_on_all.new.list.items) made c.requires.depths

pub returns-clause-made : goal.returns-clause-made
returns-clause-made c =
    let made = made_by c.args._depth c.args._path.now c.hand_on_all.result c.args.state.now c.args.list.now.items c.keep_directories.new.list.items c.hand_on_all.new.list.items c.keep_directories.ensures c.hand_on_all.ensures in
    made_for names_handed_on c.args._depth c.args._path.now c.hand_on_all.result c.args.state.now c.args.state.now (map item c.args.list.now.items) (map item c.hand_on_all.new.list.items) made

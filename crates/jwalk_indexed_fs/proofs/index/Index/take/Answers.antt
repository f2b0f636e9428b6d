use Rattle.std.proofs.Common.{None}
use Rattle.std.proofs.lemmas.Map.Text.{hash_map_updates_text}
use Rattle.jwalk_indexed_fs.proofs.index.Index.take.Goals as goal

pub returns-clause-rest : goal.returns-clause-rest
returns-clause-rest c = hash_map_updates_text c.args.path.now c.args.self.now.records c.remove.new.self None c.remove.ensures.updates

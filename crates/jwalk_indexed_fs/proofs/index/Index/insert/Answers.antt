use Rattle.std.proofs.Common.{Some, string_bytes}
use Rattle.std.proofs.lemmas.Map.Text.{hash_map_updates_text}
use Rattle.jwalk_indexed_fs.proofs.index.Index.insert.Goals as goal

pub returns-clause-added : goal.returns-clause-added
returns-clause-added c = hash_map_updates_text (string_bytes c.args.path) c.args.self.now.records c.insert.new.self (Some c.args.kept) c.in_ok-insert.ensures.updates

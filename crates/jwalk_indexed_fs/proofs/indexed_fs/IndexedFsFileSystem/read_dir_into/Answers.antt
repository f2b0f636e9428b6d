use Rattle.std.proofs.Common.{rules}
use Rattle.jwalk_indexed_fs.specs.Records.{list_kept}
use Rattle.jwalk_indexed_fs.proofs.indexed_fs.IndexedFsFileSystem.read_dir_into.Goals as goal

-- a record that is current is what the directory holds
pub returns-in_ok-list_into-in-Some-clause-taken : goal.returns-in_ok-list_into-in-Some-clause-taken
returns-in_ok-list_into-in-Some-clause-taken g c = (
  list_kept c.in-Some.kept.now.names,
  c.in_ok-list_into-in-Some.ensures,
  λ fixed. fixed.1 c.args.path.now c.in-Some.kept.now (search (rules, fixed)),
  tt,
)

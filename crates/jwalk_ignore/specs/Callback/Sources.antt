-- Files of rules that are read, and what is made of them, as values.
use Rattle.std.specs.Prelude.{List, map, Result}
use Rattle.jwalk.specs.jwalk_job.Entry.{item}
use Rattle.jwalk.specs.jwalk_job.declared.dir_entry.DirEntry.{DirEntry}
use Rattle.jwalk.specs.jwalk_job.declared.error.Error.{Error}
use Rattle.jwalk_ignore.specs.Rules.ChainViews.{chain_value}
use Rattle.jwalk_ignore.specs.Callback.IgnoreFiles as value
use Rattle.jwalk_ignore_rules.specs.declared.rules.chain.Chain.{Chain}
use Rattle.jwalk_ignore.specs.declared.callback.source.Source.{Source}
use Rattle.jwalk_ignore.specs.declared.callback.source.Made.{Made}

abbrev pub source_value : Source → value.Source
source_value source = record {
  kind = source.kind;
  folder = source.folder.now;
  before = source.before;
  depth = source.depth;
  may_miss = source.may_miss;
}

module _ {C A R E : Type 0} where
  -- rules in force and a list
  abbrev pub made_from : Chain A → List (Result (DirEntry C A R E) (Error A)) → value.Made R E
  made_from chain list = record { chain = chain_value chain; list = map item list }

  abbrev pub made_value : Made C A R E → value.Made R E
  made_value m = made_from m.chain m.list.items

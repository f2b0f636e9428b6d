use Rattle.std.proofs.Common.{◌≡◌, map}
use Rattle.jwalk_fs.specs.Views.{TakesAll}
use Rattle.jwalk_indexed_fs.specs.Item.{item_of}
use Rattle.jwalk_indexed_fs.specs.Taken.{item_typed, is_whole, seen_items}
use Rattle.jwalk_indexed_fs.proofs.taken.give_all.Given as goal

-- the items so far were given on, and are kept
abbrev pub invariant-loop-item : goal.invariant-loop-item
invariant-loop-item g l = record {
  given : TakesAll g.K.Sink.Took (map item_of l.yielded) l.initial.sink l.sink;
  names : map item_typed l.taken.names.items ≡ seen_items (map item_of l.yielded);
  whole : l.taken.is_whole ≡ is_whole (map item_of l.yielded);
}

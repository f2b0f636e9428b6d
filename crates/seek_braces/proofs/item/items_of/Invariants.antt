use Rattle.std.proofs.Common.{◌≡◌, ◌≤◌, ◌++◌, drop}
use Rattle.seek_braces.specs.Item.{items_in}
use Rattle.seek_braces.specs.declared.place.Place.TheVariants.{Outside}
use Rattle.seek_braces.proofs.item.items_of.Given as goal

-- the items so far, and those of the other bytes, are all
abbrev pub invariant-loop-byte : goal.invariant-loop-byte
invariant-loop-byte l = record {
  same : items_in Outside 0 l.text ≡ l.items.items ++ items_in l.place l.depth (drop l.byte-index l.text);
  depth : l.depth ≤ l.byte-index;
}

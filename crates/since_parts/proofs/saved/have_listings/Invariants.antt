use Rattle.std.proofs.Common.{◌≡◌, map, take}
use Rattle.jwalk_snapshot.specs.Text.{folder_of}
use Rattle.since_parts.specs.Saved.{listing_in}
use Rattle.since_parts.proofs.saved.have_listings.Given as goal

abbrev pub invariant-loop-at : goal.invariant-loop-at
invariant-loop-at l = map listing_in (map folder_of (take l.at l.blocks)) ≡ take l.at l.listings

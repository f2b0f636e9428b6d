use Rattle.std.proofs.Common.{◌≡◌, ◌*◌, ◌++◌, ◌∷◌, [], length, map, refl, rules}
use Rattle.jwalk_snapshot.specs.Text.{folder_of}
use Rattle.since_parts.specs.Held.{held_in}
use Rattle.since_parts.proofs.HeldFacts.{rest_taken, taken_falls, taken_same}
use Rattle.since_parts.proofs.held.Order.take.Goals as goal

pub returns-in_ok-push-2-clause-passes : goal.returns-in_ok-push-2-clause-passes
returns-in_ok-push-2-clause-passes c = λ it.
    let numbers = c.args.self.now.numbers in
    let behind = held_in numbers (map folder_of c.args.self.now.blocks.now) in
    let others = c.pop.new.self.items in
    let was : c.args.self.now.opened.items ≡ others ++ c.in-Some.rest ∷ [] = search rules in
    let opened : length c.args.self.now.opened.items ≡ length c.push.new.self.items = search rules in
    let taken = rest_taken numbers c.in-Some.rest.folder.now c.in-Some.rest.names.now _ c.in-len1-up.len_at_least in
    record {
      same = taken_same numbers behind others c.in-Some.rest _ _ c.args.self.now.opened.items c.push.new.self.items was c.in_ok-push.ensures.items taken c.args.self.now.all.items c.push-in-len1-up.new.self.items _ c.in_ok-push-2.ensures.items refl;
      falls = taken_falls numbers behind others c.in-Some.rest _ _ c.args.self.now.opened.items c.push.new.self.items was c.in_ok-push.ensures.items taken (2 * length c.args.self.now.blocks.now) opened;
    }

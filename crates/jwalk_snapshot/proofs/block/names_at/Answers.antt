use Rattle.std.proofs.Common.{rules, ◌≡◌, ◌++◌, ◌∷◌, [], map, sym}
use Rattle.std.proofs.lemmas.List.{map_push}
use Rattle.jwalk_snapshot.specs.Reading.{entry_at, list_at}
use Rattle.jwalk_snapshot.specs.Text.{entry_of}
use Rattle.jwalk_snapshot.proofs.ListFacts.{goes_on, ends, is_done}
use Rattle.jwalk_snapshot.proofs.block.names_at.Goals as goal

pub returns-in_default : goal.returns-in_default
returns-in_default c = ends entry_at (map entry_of c.loop.names.items) c.args.count c.loop.counter c.loop.rest.now (list_at entry_at c.args.count c.args.text.now) c.loop-test.true (sym c.in_default.ensures) c.loop.invariant.1

pub loop-preserved : goal.loop-preserved
loop-preserved c =
    let e : map entry_of c.push.new.self.items ≡ map entry_of c.loop.names.items ++ (entry_of c.in-Some.name) ∷ [] = rw c.in_ok-push.ensures.items (map_push entry_of c.loop.names.items c.in-Some.name) in
    (search rules, rw e (goes_on entry_at (map entry_of c.loop.names.items) c.args.count c.loop.counter c.loop.rest.now (entry_of c.in-Some.name) c.in-Some.after.now (list_at entry_at c.args.count c.args.text.now) c.loop-test.true (sym c.in-Some.ensures) c.loop.invariant.1))

pub returns : goal.returns
returns c = is_done entry_at (map entry_of c.loop.names.items) c.args.count c.loop.counter c.loop.rest.now (list_at entry_at c.args.count c.args.text.now) c.loop-test.false c.loop.invariant.1

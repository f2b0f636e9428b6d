use Rattle.std.proofs.Common.{rules, ◌≡◌, ◌++◌, ◌∷◌, [], map, sym}
use Rattle.std.proofs.lemmas.List.{map_push}
use Rattle.jwalk_snapshot.specs.Reading.{field_at, list_at}
use Rattle.jwalk_snapshot.specs.Text.{text_in}
use Rattle.jwalk_snapshot.proofs.ListFacts.{goes_on, ends, is_done}
use Rattle.jwalk_snapshot.proofs.head.words_at.Goals as goal

pub returns-in_default : goal.returns-in_default
returns-in_default c = ends (field_at 0) (map text_in c.loop.words.items) c.args.count c.loop.counter c.loop.rest.now (list_at (field_at 0) c.args.count c.args.text.now) c.loop-test.true (sym c.in_default.ensures) c.loop.invariant.1

pub loop-preserved : goal.loop-preserved
loop-preserved c =
    let e : map text_in c.push.new.self.items ≡ map text_in c.loop.words.items ++ (text_in c.in-Some.word) ∷ [] = rw c.in_ok-push.ensures.items (map_push text_in c.loop.words.items c.in-Some.word) in
    (search rules, rw e (goes_on (field_at 0) (map text_in c.loop.words.items) c.args.count c.loop.counter c.loop.rest.now (text_in c.in-Some.word) c.in-Some.after.now (list_at (field_at 0) c.args.count c.args.text.now) c.loop-test.true (sym c.in-Some.ensures) c.loop.invariant.1))

pub returns : goal.returns
returns c = is_done (field_at 0) (map text_in c.loop.words.items) c.args.count c.loop.counter c.loop.rest.now (list_at (field_at 0) c.args.count c.args.text.now) c.loop-test.false c.loop.invariant.1

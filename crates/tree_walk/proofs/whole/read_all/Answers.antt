use Rattle.std.proofs.Common.{◌≡◌, ◌++◌, [], map, length, sym, ap, ◌∙◌, subst, arith}
use Rattle.std.proofs.lemmas.List.{append-nil}
use Rattle.jwalk_board.proofs.PreorderValues.{below, readings-are, one_more}
use Rattle.tree_walk.specs.Reads.{IsAsGiven}
use Rattle.tree_walk.specs.BoardWalk.{GivesFirst, to_read}
use Rattle.tree_walk.proofs.WholeFacts.{stays_given, first_given}
use Rattle.tree_walk.proofs.whole.read_all.Goals as goal

pub loop-found-preserved : goal.loop-found-preserved
loop-found-preserved g c =
    let plan = c.args.plan in
    let fixed = c.requires.1.1.1.1.1.0 in
    let t = g.J.Plan.tree plan g.given in
    let sv = g.J.Plan.spec_value g.given in
    let rv = g.J.Plan.reading_value g.given in
    let old = c.loop-found.walk in
    let new = c.read_next.new.self in
    let first = subst (λ p. GivesFirst (g.J.Plan.IsReading p) old.width old.board c.in-Some.read new.board) c.loop-found.invariant.plan (rw c.in-Some.is at c.in_ok-read.ensures.answers.next) in
    let given : (s : _) (r : _) (below : _) → g.J.Plan.IsReading plan s r below → IsAsGiven sv rv t s r below = λ s r below is. (let both = g.met.J.Plan.as_given plan s r below is g.given fixed in record { same_reading = both.0; same_children = both.1 }) in
    record {
      plan = c.read_next.ensures.plan ∙ c.loop-found.invariant.plan;
      early = stays_given sv rv t (g.J.Plan.IsReading plan) given old.width old.board new.board c.in-Some.read first c.loop-found.invariant.early;
      same = rw c.in_ok-push.ensures.items (one_more rv c.loop-found.found.items c.in-Some.read _ _ _ c.loop-found.invariant.same (first_given sv rv t (g.J.Plan.IsReading plan) given old.width old.board new.board c.in-Some.read first c.loop-found.invariant.early (g.met.J.Plan.falls plan g.given fixed)));
    }

pub loop-found-smaller : goal.loop-found-smaller
loop-found-smaller g c =
    let plan = c.args.plan in
    let fixed = c.requires.1.1.1.1.1.0 in
    let t = g.J.Plan.tree plan g.given in
    let sv = g.J.Plan.spec_value g.given in
    let rv = g.J.Plan.reading_value g.given in
    let old = c.loop-found.walk in
    let new = c.read_next.new.self in
    let first = subst (λ p. GivesFirst (g.J.Plan.IsReading p) old.width old.board c.in-Some.read new.board) c.loop-found.invariant.plan (rw c.in-Some.is at c.in_ok-read.ensures.answers.next) in
    let given : (s : _) (r : _) (below : _) → g.J.Plan.IsReading plan s r below → IsAsGiven sv rv t s r below = λ s r below is. (let both = g.met.J.Plan.as_given plan s r below is g.given fixed in record { same_reading = both.0; same_children = both.1 }) in
    omega (arith, ap length (first_given sv rv t (g.J.Plan.IsReading plan) given old.width old.board new.board c.in-Some.read first c.loop-found.invariant.early (g.met.J.Plan.falls plan g.given fixed)))

pub returns : goal.returns
returns g c =
    let t = g.J.Plan.tree c.args.plan g.given in
    let sv = g.J.Plan.spec_value g.given in
    let rv = g.J.Plan.reading_value g.given in
    let last = rw c.in_default.is at c.in_ok-read.ensures.answers.next in
    let none : to_read c.loop-found.walk ≡ [] = last.0 in
    sym (append-nil (map rv c.loop-found.found.items))
    ∙ ap (λ l. map rv c.loop-found.found.items ++ map t.reading (below t (map sv l))) (sym none)
    ∙ c.loop-found.invariant.same
    ∙ sym (readings-are t (map sv c.args.roots.items))

use Rattle.std.proofs.Common.{List, Some, Ok, Result, refl, sym, subst}
use Rattle.jwalk_changes.specs.declared.change.Change.{Change}
use Rattle.jwalk_changes.specs.declared.change.NotAscending.{NotAscending}
use Rattle.jwalk_changes.specs.Coming.{Gives}
use Rattle.jwalk_changes.proofs.WholeFacts.{SoFar, none_so_far, one_more, error_is_true, all_compared, true_of, compares}
use Rattle.jwalk_changes.proofs.all_changes.Goals as goal

pub loop-change-init : goal.loop-change-init
loop-change-init g c = record {
  can = c.changes-coming.ensures.can;
  so_far =
      subst (λ (l : List (Change g.row.O.Denot g.row.N.Denot)). SoFar g.I.Iterator.next_gives g.J.Iterator.next_gives g.K.Iterator.next_gives g.O.AtPath.path g.O.Entry.facts g.N.AtPath.path g.N.Entry.facts g.U.AtPath.path c.changes-coming.result l c.changes-coming.result) (sym c.new-found.ensures.items)
      (none_so_far g.I.Iterator.next_gives g.J.Iterator.next_gives g.K.Iterator.next_gives g.O.AtPath.path g.O.Entry.facts g.N.AtPath.path g.N.Entry.facts g.U.AtPath.path c.changes-coming.result c.changes-coming.ensures.fresh);
}

pub loop-change-preserved : goal.loop-change-preserved
loop-change-preserved g c =
    let now = c.loop-change.coming in
    let end = c.next.new.self in
    let gives = subst (λ (x : Result (Change g.row.O.Denot g.row.N.Denot) NotAscending). Gives g.I.Iterator.next_gives g.J.Iterator.next_gives g.K.Iterator.next_gives g.O.AtPath.path g.O.Entry.facts g.N.AtPath.path g.N.Entry.facts g.U.AtPath.path now (Some x) end) c.in-Ok.is c.in-Some.ensures.steps in
    record {
      can = c.in-Some.ensures.goes.keeps;
      so_far =
          subst (λ (l : List (Change g.row.O.Denot g.row.N.Denot)). SoFar g.I.Iterator.next_gives g.J.Iterator.next_gives g.K.Iterator.next_gives g.O.AtPath.path g.O.Entry.facts g.N.AtPath.path g.N.Entry.facts g.U.AtPath.path c.changes-coming.result l end) (sym c.in_ok-push-in-Ok.ensures.items)
          (one_more g.I.Iterator.next_gives g.J.Iterator.next_gives g.K.Iterator.next_gives g.O.AtPath.path g.O.Entry.facts g.N.AtPath.path g.N.Entry.facts g.U.AtPath.path c.changes-coming.result now end c.loop-change.found.items (Ok c.in-Ok.change) c.loop-change.invariant.so_far gives refl);
    }

pub returns-in-Err-clause-told : goal.returns-in-Err-clause-told
returns-in-Err-clause-told g c =
    let now = c.loop-change.coming in
    let end = c.next.new.self in
    let start = c.changes-coming in
    let gives = subst (λ (x : Result (Change g.row.O.Denot g.row.N.Denot) NotAscending). Gives g.I.Iterator.next_gives g.J.Iterator.next_gives g.K.Iterator.next_gives g.O.AtPath.path g.O.Entry.facts g.N.AtPath.path g.N.Entry.facts g.U.AtPath.path now (Some x) end) c.in-Err.is c.in-Some.ensures.steps in
    true_of g.I.Iterator.next_gives g.J.Iterator.next_gives g.K.Iterator.next_gives g.O.AtPath.path g.O.Entry.facts g.N.AtPath.path g.N.Entry.facts g.U.AtPath.path start.result c.args.old c.args.new c.args.unknown c.in-Err.input start.ensures.old start.ensures.new start.ensures.unknown
    (error_is_true g.I.Iterator.next_gives g.J.Iterator.next_gives g.K.Iterator.next_gives g.O.AtPath.path g.O.Entry.facts g.N.AtPath.path g.N.Entry.facts g.U.AtPath.path start.result now end c.loop-change.found.items c.in-Err.input start.ensures.fresh c.loop-change.invariant.so_far gives)

pub returns-clause-all : goal.returns-clause-all
returns-clause-all g c =
    let start = c.changes-coming in
    compares g.I.Iterator.next_gives g.J.Iterator.next_gives g.K.Iterator.next_gives g.O.AtPath.path g.O.Entry.facts g.N.AtPath.path g.N.Entry.facts g.U.AtPath.path start.result c.args.old c.args.new c.args.unknown c.loop-change.found.items start.ensures.old start.ensures.new start.ensures.unknown
    (all_compared g.I.Iterator.next_gives g.J.Iterator.next_gives g.K.Iterator.next_gives g.O.AtPath.path g.O.Entry.facts g.N.AtPath.path g.N.Entry.facts g.U.AtPath.path start.result c.loop-change.coming c.next.new.self c.loop-change.found.items start.ensures.fresh c.loop-change.invariant.so_far c.in_default.ensures.steps)

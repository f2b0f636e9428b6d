use Rattle.std.proofs.Common.{◌∙◌, Ok, map, reverse, refl}
use Rattle.std.specs.Prelude.{option_map}
use Rattle.jwalk_order.specs.Frontier.{next_address}
use Rattle.jwalk_job.specs.Entry.{entry, item, children}
use Rattle.jwalk_job.specs.ReadDir.{outcome}
use Rattle.jwalk_iter.specs.Entries.{items_of, source_of, unread_of, max_depth_of}
use Rattle.jwalk_readings.specs.Source.{IsKnown}
use Rattle.jwalk_readings.proofs.KnownFacts.{known_of}
use Rattle.jwalk_readings.proofs.StackFacts.{is_some-map}
use Rattle.jwalk_iter.proofs.ReceivedFacts.{popped}
use Rattle.jwalk_readings.proofs.ResultFacts.{none_ok, on_err, refused_not_lost, fewer_not_lost, passed_not_lost}
use Rattle.jwalk_iter.proofs.PassFacts.{passed_by_reading, at_read, tells_refused, tells_passed, stays_by}
use Rattle.jwalk_iter.proofs.entries.Entries.pass.Goals as goal

pub returns-in_ok-entered-in-Some-Ok : goal.returns-in_ok-entered-in-Some-Ok
returns-in_ok-entered-in-Some-Ok g c =
    let old = c.args.self.now in
    let read = c.read_next in
    let entered = c.in_ok-entered-in-Some-Ok.ensures in
    let items = popped old.items.items c.pop.new.self.items (Ok c.in-Some-Ok.found) (rw c.in-Some-Ok.field-0-is at c.in-Some-Ok.ensures.items) in
    let next = known_of (source_of g.B.Readings old) (IsKnown (source_of g.B.Readings old) (g.B.Readings.steady old.reads) (next_address (g.B.Readings.frontier old.reads))) (Ok (entry c.in-Some-Ok.found)) (unread_of g.B.Readings old) (option_map outcome c.in_ok-read-in-Some-Ok.read) (g.B.Readings.to_read read.new.self) (c.if-not-is_next.ensures.below refl) c.in_ok-read-in-Some-Ok.ensures.next in
    record {
      stays = stays_by g.B.Readings old c.entered.new.self read.new.self entered.reads entered.refused read.ensures.base read.ensures.most read.ensures.steady;
      end = tt;
      passed = passed_by_reading g.B.Readings old c.entered.new.self (Ok (entry c.in-Some-Ok.found)) (map item (reverse c.pop.new.self.items)) (option_map outcome c.in_ok-read-in-Some-Ok.read) _ read.new.self
          items (is_some-map children c.in-Some-Ok.found.read_children ∙ c.if-is_none.ensures) entered.reads next c.in_ok-read-in-Some-Ok.ensures.enters c.in_ok-read-in-Some-Ok.ensures.passes entered.received;
      tells = tt;
      comes = tt;
      stopped = tt;
    }

pub returns-in_err-entered-in-Some-Ok : goal.returns-in_err-entered-in-Some-Ok
returns-in_err-entered-in-Some-Ok g c =
    let old = c.args.self.now in
    let read = c.read_next in
    let entered = c.in_err-entered-in-Some-Ok.ensures in
    let told = c.from_residual-in_err-entered-in-Some-Ok in
    let items = popped old.items.items c.pop.new.self.items (Ok c.in-Some-Ok.found) (rw c.in-Some-Ok.field-0-is at c.in-Some-Ok.ensures.items) in
    record {
      stays = stays_by g.B.Readings old c.entered.new.self read.new.self entered.reads entered.refused read.ensures.base read.ensures.most read.ensures.steady;
      end = none_ok _ told.result told.ensures.0;
      passed = none_ok _ told.result told.ensures.0;
      tells = tells_refused (source_of g.B.Readings old) (g.B.Readings.sound (g.B.Readings.base old.reads)) told.result told.ensures.1;
      comes = refused_not_lost _ told.result told.ensures.1;
      stopped = at_read (source_of g.B.Readings old).copies (IsKnown (source_of g.B.Readings old) (g.B.Readings.steady old.reads) (next_address (g.B.Readings.frontier old.reads))) (max_depth_of g.B.Readings old) outcome c.in_ok-read-in-Some-Ok.read told.result
          (items_of old) (map item (reverse c.pop.new.self.items)) (Ok (entry c.in-Some-Ok.found)) (unread_of g.B.Readings old) (g.B.Readings.to_read read.new.self)
          items (is_some-map children c.in-Some-Ok.found.read_children ∙ c.if-is_none.ensures) entered.stopped c.in_ok-read-in-Some-Ok.ensures.next;
    }

pub returns-in_err-read-in-Some-Ok : goal.returns-in_err-read-in-Some-Ok
returns-in_err-read-in-Some-Ok g c =
    let old = c.args.self.now in
    let read = c.read_next.ensures in
    let told = c.from_residual in
    let items = popped old.items.items c.pop.new.self.items (Ok c.in-Some-Ok.found) (rw c.in-Some-Ok.field-0-is at c.in-Some-Ok.ensures.items) in
    record {
      stays = record { base = read.base; refused = refl; most = read.most; steady = read.steady };
      end = none_ok _ told.result told.ensures.0;
      passed = none_ok _ told.result told.ensures.0;
      tells = tells_passed (source_of g.B.Readings old) c.in_err-read-in-Some-Ok.field-0.0 told.result told.ensures.1 c.in_err-read-in-Some-Ok.ensures.tells;
      comes = passed_not_lost _ c.in_err-read-in-Some-Ok.field-0.0 told.result told.ensures.1 (fewer_not_lost _ _ c.in_err-read-in-Some-Ok.field-0.0 (λ given steady. steady.reads) c.in_err-read-in-Some-Ok.ensures.comes);
      stopped = on_err told.result (rw items ((is_some-map children c.in-Some-Ok.found.read_children ∙ c.if-is_none.ensures), c.in_err-read-in-Some-Ok.ensures.some));
    }

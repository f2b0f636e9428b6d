use Rattle.std.proofs.Common.{◌≡◌, Ok, Err, sym, subst}
use Rattle.jwalk_contents_first.specs.declared.iter.Ahead.TheVariants.{Taken}
use Rattle.jwalk_contents_first.specs.Turns.{Turns}
use Rattle.jwalk_contents_first.proofs.iter.ContentsFirst.place_taken.Goals as goal

pub returns-in-Taken-Ok : goal.returns-in-Taken-Ok
returns-in-Taken-Ok g c =
    let s = c.args.self.now in
    let is : s.ahead ≡ Taken (Ok c.in-Taken-Ok.found) = cc (c.replace.ensures.value, c.in-Taken-Ok.is, c.in-Taken-Ok.field-0-is) in
    subst (λ a. Turns g.I.Iterator.next_gives g.I.Iterator.can_next g.I.Iterator.remaining (record s { ahead = a }) c.place.result c.place.new.self) (sym is) c.place.ensures

pub returns-in-Taken-Err : goal.returns-in-Taken-Err
returns-in-Taken-Err g c =
    let s = c.args.self.now in
    let is : s.ahead ≡ Taken (Err c.in-Taken-Err.error) = cc (c.replace.ensures.value, c.in-Taken-Err.is, c.in-Taken-Err.field-0-is) in
    subst (λ a. Turns g.I.Iterator.next_gives g.I.Iterator.can_next g.I.Iterator.remaining (record s { ahead = a }) c.place_error.result c.place_error.new.self) (sym is) c.place_error.ensures

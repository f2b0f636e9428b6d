use Rattle.std.proofs.Common.{◌≡◌, to_z, of_z, to_z-of_z, w64}
use Rattle.jwalk_snapshot.proofs.NumberFacts.{signed_if_ok, signed_if_err, signed_fits}
use Rattle.jwalk_snapshot.proofs.numbers.signed_in.Goals as goal

pub returns-in-Ok : goal.returns-in-Ok
returns-in-Ok c =
    let back : to_z w64 (of_z w64 c.in-Ok.number) ≡ c.in-Ok.number = to_z-of_z (signed_fits c.args.word.now c.in-Ok.number c.parse.result c.in-Ok.is c.parse.ensures.value.0) in
    rw (c.then_some.ensures, c.is_text_of.ensures, back) (signed_if_ok c.args.word.now c.in-Ok.number c.parse.result c.in-Ok.is c.parse.ensures.value.0)

pub returns-in-Err : goal.returns-in-Err
returns-in-Err c = signed_if_err c.args.word.now c.in-Err.field-0 c.parse.result c.in-Err.is c.parse.ensures.value.0

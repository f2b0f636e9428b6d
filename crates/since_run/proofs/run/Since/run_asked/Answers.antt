use Rattle.std.proofs.Common.{refl}
use Rattle.since_run.proofs.RunFacts.{is_call, tells_compared, tells_listed, tells_made}
use Rattle.since_run.proofs.run.Since.run_asked.Goals as goal

pub returns-clause-tells : goal.returns-clause-tells
returns-clause-tells g c =
    tells_compared _ g.K.Store c.args.self c.args.asked.now _ _ c.args.store.now c.save_told.new.store
    c.save_told.result _ c.in_ok-bytes.field-0 c.in-Some.bytes c.in_ok-told.told
    c.in_ok-told.ensures (is_call c.in_ok-texts.ensures.ok c.threads_in.ensures c.in_ok-crew.ensures refl refl refl)
    c.in_ok-bytes.ensures c.in-Some.is c.if-asked.false c.save_told.ensures.ends

pub returns-then-asked-clause-tells : goal.returns-then-asked-clause-tells
returns-then-asked-clause-tells g c =
    tells_listed _ g.K.Store c.args.self c.args.asked.now _ _ c.args.store.now c.args.store.now
    c.list.result _ c.in_ok-bytes.field-0 c.in-Some.bytes
    (rw c.deref.ensures.value at c.list.ensures.lists) (is_call c.in_ok-texts.ensures.ok c.threads_in.ensures c.in_ok-crew.ensures refl refl refl)
    c.in_ok-bytes.ensures c.in-Some.is c.if-asked.true refl

pub returns-in_default-clause-tells : goal.returns-in_default-clause-tells
returns-in_default-clause-tells g c =
    tells_made _ g.K.Store c.args.self c.args.asked.now _ _ c.args.store.now c.begin.new.store
    c.begin.result _ c.in_ok-bytes.field-0
    c.begin.ensures.begins (is_call c.in_ok-texts.ensures.ok c.threads_in.ensures c.in_ok-crew.ensures refl refl refl)
    c.in_ok-bytes.ensures c.in_default.is refl

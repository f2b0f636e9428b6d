use Rattle.std.proofs.Common.{◌≡◌, ◌∙◌, true, false, sym}
use Rattle.std.specs.Arc.{arc_value}
use Rattle.jwalk_laws.proofs.OwnReadersFacts.{was_ok, message_of, reads_on, goes_on, other_due}
use Rattle.jwalk_laws.proofs.own_readers.OwnReadersReadersStatesNoProcessGlobal.next.Goals as goal

pub returns-then-not-fits-clause-same : goal.returns-then-not-fits-clause-same
returns-then-not-fits-clause-same g c = λ origin comes.
    let put = was_ok c.put_below-put.result c.is_err.result _ c.is_err.ensures.value c.if-is_err.false c.put_below-put.ensures in
    let read = c.read-message.ensures in
    let made = c.new-item.ensures in
    reads_on _ _ _ _ origin (arc_value c.args.self.now.job) c.args.self.now.waiting.items c.pop.new.self.items c.put_below-put.new.waiting.items c.in-Some.address c.in-Some.of c.new-item.result c.read-message.result.1.items c.in-Some.ensures.items put c.read-message.result.0 (read.job ∙ c.in_ok-job.ensures.cases) read.of read.lawful read.children made.index_path made.value (made.child_count ∙ c.len.ensures ∙ c.read-message.result.1.ok.0) comes

pub returns-then-not-fits-clause-due : goal.returns-then-not-fits-clause-due
returns-then-not-fits-clause-due g c = λ lost origin comes.
    let put = was_ok c.put_below-put.result c.is_err.result _ c.is_err.ensures.value c.if-is_err.false c.put_below-put.ensures in
    let read = c.read-message.ensures in
    let made = c.new-item.ensures in
    other_due _ _ _ _ origin (arc_value c.args.self.now.job) c.args.self.now.waiting.items c.pop.new.self.items c.put_below-put.new.waiting.items c.in-Some.address c.in-Some.of c.new-item.result c.read-message.result.1.items c.in-Some.ensures.items put c.read-message.result.0 (read.job ∙ c.in_ok-job.ensures.cases) read.of read.lawful read.children made.index_path made.value (made.child_count ∙ c.len.ensures ∙ c.read-message.result.1.ok.0) c.args.wanted.now (λ fits. let no : true ≡ false = sym (c.fits.ensures.1 fits) ∙ c.if-not-fits.true in absurd cc) comes

pub returns-clause-of : goal.returns-clause-of
returns-clause-of g c = λ origin comes.
    let put = was_ok c.put_below-put.result c.is_err.result _ c.is_err.ensures.value c.if-is_err.false c.put_below-put.ensures in
    let read = c.read-message.ensures in
    let made = c.new-item.ensures in
    message_of _ _ _ _ origin (arc_value c.args.self.now.job) c.args.self.now.waiting.items c.pop.new.self.items c.put_below-put.new.waiting.items c.in-Some.address c.in-Some.of c.new-item.result c.read-message.result.1.items c.in-Some.ensures.items put c.read-message.result.0 (read.job ∙ c.in_ok-job.ensures.cases) read.of read.lawful read.children made.index_path made.value (made.child_count ∙ c.len.ensures ∙ c.read-message.result.1.ok.0) comes

pub returns-clause-same : goal.returns-clause-same
returns-clause-same g c = λ origin comes.
    let put = was_ok c.put_below-put.result c.is_err.result _ c.is_err.ensures.value c.if-is_err.false c.put_below-put.ensures in
    let read = c.read-message.ensures in
    let made = c.new-item.ensures in
    reads_on _ _ _ _ origin (arc_value c.args.self.now.job) c.args.self.now.waiting.items c.pop.new.self.items c.put_below-put.new.waiting.items c.in-Some.address c.in-Some.of c.new-item.result c.read-message.result.1.items c.in-Some.ensures.items put c.read-message.result.0 (read.job ∙ c.in_ok-job.ensures.cases) read.of read.lawful read.children made.index_path made.value (made.child_count ∙ c.len.ensures ∙ c.read-message.result.1.ok.0) comes

pub returns-clause-further : goal.returns-clause-further
returns-clause-further g c =
    let put = was_ok c.put_below-put.result c.is_err.result _ c.is_err.ensures.value c.if-is_err.false c.put_below-put.ensures in
    let made = c.new-item.ensures in
    goes_on c.args.self.now.waiting.items c.pop.new.self.items c.put_below-put.new.waiting.items c.in-Some.address c.new-item.result.index_path c.in-Some.of c.read-message.result.1.items _ c.in-Some.ensures.items put made.index_path (made.child_count ∙ c.len.ensures ∙ c.read-message.result.1.ok.0)

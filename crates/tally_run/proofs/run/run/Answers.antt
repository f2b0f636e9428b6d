use Rattle.std.proofs.Common.{◌<◌, true, false, inl, inr, map, string_bytes, arith, subst, sym}
use Rattle.tally_words.proofs.RefusalFacts.{text_asked}
use Rattle.tally_run.proofs.RootFacts.{first_makes, ok_known}
use Rattle.tally_run.proofs.run.run.Goals as goal

pub returns-in-Ok-clause-ends : goal.returns-in-Ok-clause-ends
returns-in-Ok-clause-ends g c = inl (_, c.in-Ok.ensures.asked, search (arith, c.status_of.ensures.status))

pub returns-in-Ok-clause-done : goal.returns-in-Ok-clause-done
returns-in-Ok-clause-done g c = λ none. inr (_, c.in-Ok.ensures.asked, ok_known c.tally-ended.result true _ (c.status_of.ensures.clean none) c.tally-ended.ensures)

pub returns-in-Ok-clause-failed : goal.returns-in-Ok-clause-failed
returns-in-Ok-clause-failed g c = λ one.
    first_makes (c.status_of.ensures.told one) (λ unclean. (_, c.in-Ok.ensures.asked, ok_known c.tally-ended.result false _ unclean c.tally-ended.ensures))

pub returns-in-Err-clause-ends : goal.returns-in-Err-clause-ends
returns-in-Err-clause-ends g c = inr (record {
  refusal = _;
  is_for = c.in-Err.ensures.refused;
  refused = rw c.status-status.ensures at c.refuse.ensures.refused;
  text = rw c.status-status.ensures at c.refuse.ensures.text;
})

pub returns-in-Err-clause-done : goal.returns-in-Err-clause-done
returns-in-Err-clause-done g c = λ none. inl (text_asked (map string_bytes c.args.words.now) _ _ c.in-Err.ensures.refused (rw c.status-status.ensures at c.refuse.ensures.refused) none)

pub returns-in-Err-clause-failed : goal.returns-in-Err-clause-failed
returns-in-Err-clause-failed g c = λ one. inr (c.refuse.ensures.told (subst (λ n. 0 < n) (sym one) (search arith)))

use Rattle.std.proofs.Common.{ap, map, string_bytes, ◌∙◌}
use Rattle.seek_search.proofs.RunFacts.{done_with, failed_with}
use Rattle.seek_search.proofs.run.Seek.run.Goals as goal

pub returns-in-Ok-clause-ends : goal.returns-in-Ok-clause-ends
returns-in-Ok-clause-ends g c = rw (ap (map string_bytes) c.as_slice.ensures.value ∙ c.in-Ok.ensures) at c.search_words.ensures.ends

pub returns-in-Ok-clause-bad_words : goal.returns-in-Ok-clause-bad_words
returns-in-Ok-clause-bad_words g c = rw (ap (map string_bytes) c.as_slice.ensures.value ∙ c.in-Ok.ensures) at c.search_words.ensures.bad_words

pub returns-in-Ok-clause-done : goal.returns-in-Ok-clause-done
returns-in-Ok-clause-done g c = λ zero. done_with g.S.FileSystem g.X.Texts _ _ c.args.self (ap (map string_bytes) c.as_slice.ensures.value ∙ c.in-Ok.ensures) (c.search_words.ensures.done zero)

pub returns-in-Ok-clause-failed : goal.returns-in-Ok-clause-failed
returns-in-Ok-clause-failed g c = λ one. failed_with g.S.FileSystem g.X.Texts _ _ c.args.self (ap (map string_bytes) c.as_slice.ensures.value ∙ c.in-Ok.ensures) _ _ (c.search_words.ensures.failed one)

use Rattle.std.proofs.lemmas.Result.{on_ok_weaker}
use Rattle.jwalk_ignore.proofs.callback.entry_rules.EntryRulesKeeps.keeps.Goals as goal

pub returns-in-Ok-clause-same : goal.returns-in-Ok-clause-same
returns-in-Ok-clause-same g c = λ test by.
    on_ok_weaker c.keeps_name.result
    (λ decide. record { settings = by.settings; directory = by.directory; chain = by.chain; decide = decide; by = by.by })
    (c.keeps_name.ensures.same by.settings by.directory by.chain by.decide)

pub returns-in-Err-clause-same : goal.returns-in-Err-clause-same
returns-in-Err-clause-same g c = λ test by.
    on_ok_weaker c.keeps_failed.result
    (λ decide. record { settings = by.settings; directory = by.directory; chain = by.chain; decide = decide; by = by.by })
    (c.keeps_failed.ensures.same by.settings by.directory by.chain by.decide)

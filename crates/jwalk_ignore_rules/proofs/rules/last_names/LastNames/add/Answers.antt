use Rattle.std.proofs.Common.{◌∙◌, ◌+◌, ap, refl}
use Rattle.jwalk_ignore_rules.proofs.LastNamesFacts.{found, inserted}
use Rattle.jwalk_ignore_rules.proofs.rules.last_names.LastNames.add.Goals as goal

pub returns-in_ok-insert-in-Some-clause-added : goal.returns-in_ok-insert-in-Some-clause-added
returns-in_ok-insert-in-Some-clause-added g c =
    rw c.in-Some.is
    ((λ name. ap (found (λ key. key.items) name) c.in_ok-insert-in-Some.ensures.entries ∙ inserted (λ key. key.items) c.in-Some.name (c.args.place + 1) name c.args.self.now.counts.entries), refl)

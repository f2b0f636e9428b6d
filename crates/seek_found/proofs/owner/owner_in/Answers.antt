use Rattle.std.proofs.Common.{◌∙◌, ℕ, List, subst, sym}
use Rattle.seek_found.specs.Owner.{groups_file, users_file, IsPartBy}
use Rattle.seek_found.proofs.OwnerFacts.{by_parts}
use Rattle.seek_found.proofs.owner.owner_in.Goals as goal

pub returns-in-Some-clause-owner : goal.returns-in-Some-clause-owner
returns-in-Some-clause-owner g c =
    let told = g.X.Texts.IsFixed c.args.texts.now in
    let texts = g.X.Texts.functions c.args.texts.now in
    by_parts told texts c.args.text.now c.in_ok-user.user c.in_ok-group.group
    (subst (λ (t : List ℕ). IsPartBy told texts users_file t c.in_ok-user.user) c.parts_of.ensures.user c.in_ok-user.ensures.part)
    (subst (λ (t : List ℕ). IsPartBy told texts groups_file t c.in_ok-group.group) c.parts_of.ensures.group c.in_ok-group.ensures.part) _
    (sym c.in-Some.is ∙ c.owner_of_parts.ensures)

pub returns-in-None-clause-refused : goal.returns-in-None-clause-refused
returns-in-None-clause-refused g c = λ _.
    let told = g.X.Texts.IsFixed c.args.texts.now in
    let texts = g.X.Texts.functions c.args.texts.now in
    by_parts told texts c.args.text.now c.in_ok-user.user c.in_ok-group.group
    (subst (λ (t : List ℕ). IsPartBy told texts users_file t c.in_ok-user.user) c.parts_of.ensures.user c.in_ok-user.ensures.part)
    (subst (λ (t : List ℕ). IsPartBy told texts groups_file t c.in_ok-group.group) c.parts_of.ensures.group c.in_ok-group.ensures.part) _
    (sym c.in-None.is ∙ c.owner_of_parts.ensures)

use Rattle.std.proofs.Common.{◌≡◌, ◌∙◌, true, false, ap, sym}
use Rattle.std.specs.Arc.{arc_value}
use Rattle.jwalk_ignore_rules.specs.Rules.Chain.{is_said, link_says, links_say}
use Rattle.jwalk_ignore_rules.specs.Rules.ChainViews.{link_value, links_value}
use Rattle.jwalk_ignore_rules.specs.Rules.Matching.{or_else}
use Rattle.jwalk_ignore_rules.proofs.ChainFacts.{last_says, said_first, unsaid_next}
use Rattle.jwalk_ignore_rules.proofs.rules.chain.links_say.Goals as goal

pub returns-then-is_said : goal.returns-then-is_said
returns-then-is_said g c =
    let path = c.args.path.now in
    let is_dir = c.args.is_dir in
    let farther = c.in-Some.farther.now in
    let link = c.in-Some.link.now in
    let next = links_say (links_value farther) path is_dir in
    let decision = c.decision-decision.result in
    let said : decision ≡ link_says (link_value (arc_value link)) path is_dir = c.decision-decision.ensures ∙ ap (λ x. link_says (link_value x) path is_dir) c.deref.ensures in
    let step = ap (λ l. links_say (links_value l) path is_dir) c.in-Some.ensures.cases.0 ∙ last_says farther link path is_dir in
    let is : is_said decision ≡ true = sym c.is_said.ensures ∙ c.if-is_said.true in
    sym (said_first decision next is) ∙ ap (λ d. or_else d next) said ∙ sym step ∙ sym c.links.invariant

pub links-preserved : goal.links-preserved
links-preserved g c =
    let path = c.args.path.now in
    let is_dir = c.args.is_dir in
    let farther = c.in-Some.farther.now in
    let link = c.in-Some.link.now in
    let next = links_say (links_value farther) path is_dir in
    let decision = c.decision-decision.result in
    let said : decision ≡ link_says (link_value (arc_value link)) path is_dir = c.decision-decision.ensures ∙ ap (λ x. link_says (link_value x) path is_dir) c.deref.ensures in
    let step = ap (λ l. links_say (links_value l) path is_dir) c.in-Some.ensures.cases.0 ∙ last_says farther link path is_dir in
    let none : is_said decision ≡ false = sym c.is_said.ensures ∙ c.if-is_said.false in
    c.links.invariant ∙ step ∙ ap (λ d. or_else d next) (sym said) ∙ unsaid_next decision next none

use Rattle.std.proofs.Common.{ℕ, List, Option, map, ◌∙◌, sym, ap}
use Rattle.std.specs.Option.{option_copied, option_map}
use Rattle.std.specs.Path.{path_components, components_remaining}
use Rattle.jwalk_model.specs.Paths.{components}
use Rattle.jwalk_model.specs.PathTexts.{component_read, components_left}
use Rattle.jwalk_model.proofs.PathFacts.{path_components-read}
use Rattle.jwalk_memory_fs.specs.Branch.{named_below}
use Rattle.jwalk_memory_fs.specs.Table.{branches}
use Rattle.jwalk_memory_fs.proofs.SpotLemmas.{named_spot-split}
use Rattle.jwalk_memory_fs.proofs.memory_fs.MemoryFs.spot.Goals as goal

abbrev behind : List ℕ → Option ℕ → Option (ℕ × List ℕ)
behind name holder = option_map (λ index. (index, name)) holder

pub returns-in_err-name-clause-value : goal.returns-in_err-name-clause-value
returns-in_err-name-clause-value g c = rw c.from_residual.ensures (
    named_spot-split (branches c.args.self.now.table) (components c.args.path.now) _ (components_remaining c.next_back.new.self) c.next_back.result (option_copied c.plain_name.result)
    c.next_back.ensures.steps (ap (map component_read) (c.components-front.ensures ∙ ap path_components c.new.ensures) ∙ path_components-read c.args.path.now) c.plain_name.ensures
    ∙ ap (λ r. named_below (branches c.args.self.now.table) (components_left c.next_back.new.self) (option_copied r)) c.in_err-name.was)

pub returns-in_err-holder-clause-value : goal.returns-in_err-holder-clause-value
returns-in_err-holder-clause-value g c = rw c.from_residual-in_err-holder.ensures (
    named_spot-split (branches c.args.self.now.table) (components c.args.path.now) _ (components_remaining c.next_back.new.self) c.next_back.result (option_copied c.plain_name.result)
    c.next_back.ensures.steps (ap (map component_read) (c.components-front.ensures ∙ ap path_components c.new.ensures) ∙ path_components-read c.args.path.now) c.plain_name.ensures
    ∙ ap (λ r. named_below (branches c.args.self.now.table) (components_left c.next_back.new.self) (option_copied r)) c.in_ok-name.was
    ∙ ap (behind c.in_ok-name.name.now) (sym c.holder.ensures.value ∙ c.in_err-holder.was))

pub returns-clause-value : goal.returns-clause-value
returns-clause-value g c =
    named_spot-split (branches c.args.self.now.table) (components c.args.path.now) _ (components_remaining c.next_back.new.self) c.next_back.result (option_copied c.plain_name.result)
    c.next_back.ensures.steps (ap (map component_read) (c.components-front.ensures ∙ ap path_components c.new.ensures) ∙ path_components-read c.args.path.now) c.plain_name.ensures
    ∙ ap (λ r. named_below (branches c.args.self.now.table) (components_left c.next_back.new.self) (option_copied r)) c.in_ok-name.was
    ∙ ap (behind c.in_ok-name.name.now) (sym c.holder.ensures.value ∙ c.in_ok-holder.was)

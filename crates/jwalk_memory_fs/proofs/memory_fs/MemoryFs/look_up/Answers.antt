use Rattle.std.proofs.Common.{ℕ, List, map, ◌∙◌, sym, ap, length, eqb}
use Rattle.std.proofs.lemmas.Bool.{false≢true}
use Rattle.jwalk_model.specs.Paths.{Component}
use Rattle.jwalk_model.specs.PathTexts.{component_read}
use Rattle.jwalk_model.proofs.PathFacts.{path_components-read}
use Rattle.std.specs.Path.{path_components}
use Rattle.jwalk_memory_fs.specs.Branch.{from_root}
use Rattle.jwalk_memory_fs.specs.Table.{branches}
use Rattle.jwalk_memory_fs.proofs.LookUpLemmas.{found-some}
use Rattle.jwalk_memory_fs.proofs.memory_fs.MemoryFs.look_up.Goals as goal

pub returns-clause-value : goal.returns-clause-value
returns-clause-value g c =
    c.reach.ensures.value
    ∙ ap (λ (cs : List Component). from_root (branches c.args.self.now.table) c.args.follow cs)
    (ap (map component_read) (c.components.ensures ∙ ap path_components c.new.ensures) ∙ path_components-read c.args.path.now)
    ∙ sym (found-some (branches c.args.self.now.table) c.args.follow c.args.path.now (λ e. false≢true (sym c.if-is_empty.false ∙ c.is_empty.ensures ∙ ap (λ (p : List ℕ). eqb (length p) 0) e)))

use Rattle.std.proofs.Common.{◌≡◌, ◌∙◌, ◌∷◌, ◌<◌, ◌+◌, ℕ, List, [], ◌&&◌, false, map, drop, length, get_or, sym, ap}
use Rattle.std.proofs.lemmas.List.{at_drop_more}
use Rattle.std.specs.declared.path.components.Component.{Component as StdComponent}
use Rattle.std.specs.declared.path.components.Component.TheVariants.{RootDir}
use Rattle.jwalk_model.specs.Paths.{Component, component_eq, components_eq}
use Rattle.jwalk_model.specs.PathTexts.{component_seen}
use Rattle.jwalk_fs.specs.Place.{left_of}
use Rattle.jwalk_fs.proofs.place.Place.is_at.Goals as goal

-- a component of each
both : (cs : List StdComponent) (i : ℕ) (d : StdComponent) (left rest : List Component) (last : Component) → i < length cs → left ≡ last ∷ rest
    → (component_eq (component_seen (get_or cs i d)) last && components_eq (map component_seen (drop (i + 1) cs)) rest) ≡ components_eq (map component_seen (drop i cs)) left
both cs i d left rest last more is =
    sym (at_drop_more (λ ds. components_eq (map component_seen ds) (last ∷ rest)) cs i d more) ∙ ap (components_eq (map component_seen (drop i cs))) (sym is)

-- nothing is left of the other
alone : (cs : List StdComponent) (i : ℕ) (left : List Component) → i < length cs → left ≡ [] → false ≡ components_eq (map component_seen (drop i cs)) left
alone cs i left more is =
    sym (at_drop_more (λ ds. components_eq (map component_seen ds) []) cs i RootDir more) ∙ ap (components_eq (map component_seen (drop i cs))) (sym is)

pub returns-in_default : goal.returns-in_default
returns-in_default g c =
    ap (λ b. b && components_eq (map component_seen (drop (c.loop-component.component-index + 1) c.deref-component-items.result.now)) (left_of c.take_last.new.self)) (sym c.if-is_same.false ∙ c.is_same.ensures)
    ∙ both c.deref-component-items.result.now c.loop-component.component-index _ (left_of c.loop-component.rest) (left_of c.take_last.new.self) (component_seen c.in-Some.last) c.loop-component-test.true c.in-Some.ensures.value
    ∙ c.loop-component.invariant.1

pub returns-in_default-2 : goal.returns-in_default-2
returns-in_default-2 g c = alone c.deref-component-items.result.now c.loop-component.component-index (left_of c.loop-component.rest) c.loop-component-test.true (rw c.in_default.is at c.take_last.ensures.value) ∙ c.loop-component.invariant.1

pub loop-component-preserved : goal.loop-component-preserved
loop-component-preserved g c = (
  c.in-Some.ensures.countable,
  ap (λ b. b && components_eq (map component_seen (drop (c.loop-component.component-index + 1) c.deref-component-items.result.now)) (left_of c.take_last.new.self)) (sym c.if-is_same.true ∙ c.is_same.ensures)
      ∙ both c.deref-component-items.result.now c.loop-component.component-index _ (left_of c.loop-component.rest) (left_of c.take_last.new.self) (component_seen c.in-Some.last) c.loop-component-test.true c.in-Some.ensures.value
      ∙ c.loop-component.invariant.1,
)

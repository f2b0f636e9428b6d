use Rattle.std.proofs.Common.{refl, inl, inr, sym, subst, ◌∙◌}
use Rattle.walk_text.specs.TreeLine.{Says, IsTreeLine}
use Rattle.jwalk_memory_fs.specs.MemoryFs.{tree_of}
use Rattle.walk_text.proofs.BuiltFacts.{adds_nothing, adds_said}
use Rattle.walk_text.proofs.tree.add_line.Goals as goal

pub returns-in_default-parse_tree_line-clause-bad : goal.returns-in_default-parse_tree_line-clause-bad
returns-in_default-parse_tree_line-clause-bad g c = λ _. (refl, inr (inl (subst (λ text. ¬ (IsTreeLine text)) c.in-Ok.ensures.cases.0 c.in_default-parse_tree_line.ensures.none)))

pub returns-in_default-clause-bad : goal.returns-in_default-clause-bad
returns-in_default-clause-bad g c = λ _. (refl, inl c.in_default.ensures.cases.0)

pub returns-in-Err-Memory-clause-bad : goal.returns-in-Err-Memory-clause-bad
returns-in-Err-Memory-clause-bad g c = λ differs. absurd (differs refl)

pub returns-then-is_empty-clause-ok : goal.returns-then-is_empty-clause-ok
returns-then-is_empty-clause-ok g c = adds_nothing c.args.line.now (tree_of c.args.fs.now) (sym c.is_empty.ensures ∙ c.if-is_empty.true)

pub returns-in-Ok-add-clause-ok : goal.returns-in-Ok-add-clause-ok
returns-in-Ok-add-clause-ok g c =
    adds_said c.args.line.now (tree_of c.args.fs.now) (tree_of c.add.new.fs) c.in-Some.said (sym c.is_empty.ensures ∙ c.if-is_empty.false) (subst (λ text. Says text c.in-Some.said) c.in-Ok.ensures.cases.0 c.in-Some.ensures.some)
    c.in-Ok-add.ensures.ok

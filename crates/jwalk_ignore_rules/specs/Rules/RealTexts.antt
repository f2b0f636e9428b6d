-- The files that a runtime reaches.
use Rattle.jwalk_ignore_rules.specs.declared.rules.real_texts.RealTexts.{RealTexts}

-- the runtime
abbrev pub runtime_of : {R F D : Type 0} → RealTexts R F D → R
runtime_of texts = texts.rt

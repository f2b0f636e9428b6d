use Rattle.std.proofs.Common.{◌≡◌, ◌∙◌, Bool, true, false, cond, Option, Some, ap, refl}
use Rattle.std.specs.Prelude.{bytes_eq, option_map, string_bytes}
use Rattle.std.specs.BTreeMap.{get_by_text}
use Rattle.std.proofs.lemmas.Map.Text.{btree_map_updates_text}
use Rattle.jwalk_ignore_rules.specs.Rules.MemoryTexts.{stored}
use Rattle.jwalk_ignore_rules.specs.declared.rules.memory_texts.Content.{Content}
use Rattle.jwalk_ignore_rules.proofs.rules.memory_texts.MemoryTexts.put.Goals as goal

-- what is there, by either side
either_side : {A : Type 0} (b : Bool) (there : Content A) (old : Option (Content A)) → option_map stored (cond b (Some there) old) ≡ cond b (Some (stored there)) (option_map stored old)
either_side true there old = refl
either_side false there old = refl

pub returns : goal.returns
returns g c = λ other.
    let key = string_bytes c.in_ok-path.path in
    let old = get_by_text c.args.self.now.contents other in
    ap (option_map stored) (btree_map_updates_text key c.args.self.now.contents c.insert.new.self (Some c.args.there) c.in_ok-insert.ensures.updates other)
    ∙ either_side (bytes_eq key other) c.args.there old
    ∙ ap (λ k. cond (bytes_eq k other) (Some (stored c.args.there)) (option_map stored old)) c.in_ok-path.ensures.ok

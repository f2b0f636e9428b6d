use Rattle.std.proofs.Common.{◌-◌, ◌^◌, ◌∙◌, ap, map, arith, refl}
use Rattle.jwalk.proofs.WholeFacts.{whole_filled}
use Rattle.jwalk.specs.WalkDir.{file_system_of, root_of, options_of, stateless}
use Rattle.jwalk_model.specs.Counted.{Worth, blank}
use Rattle.jwalk_model.specs.Kept.{forgotten_item}
use Rattle.jwalk_model.specs.Walk.{stateless_job}
use Rattle.jwalk_model.proofs.KeptFacts.{metadata_changes_nothing_else}
use Rattle.jwalk_indexed_fs.specs.Listing.{typed_functions}
use Rattle.jwalk_indexed_fs.proofs.WalkFacts.{types_are_enough}
use Rattle.jwalk_indexed_fs_laws.proofs.walks.walk_over_records.Goals as goal

-- a vector holds fewer than `usize::MAX`, so all that was to come is filled in
pub returns : goal.returns
returns g c = λ needs fixed vouches none.
    let found = c.fill.new.out in
    let begun = c.into_iter.ensures in
    let fs = g.S.FileSystem.functions (file_system_of c.args.walk).fs in
    let options = options_of c.args.walk in
    let root = root_of c.args.walk in
    let all = whole_filled _ _ _ _ _ stateless c.args.walk c.into_iter.result c.fill.new.self (2 ^ 64 - 1) c.in_ok-fill.field-0 c.new-found.result.items found.items begun.own begun.starts begun.holds
    (record { file_system = (fixed, vouches); callback = λ depth path state list. refl; clones = λ x y is. refl; default = λ x is. refl })
    c.in_ok-fill.ensures c.new-found.ensures.items (omega (arith, found.ok.0, found.ok.1, found.small)) none in
    let forgets = metadata_changes_nothing_else (stateless_job (typed_functions fs) options) (λ depth path state list. refl) in
    ap (map forgotten_item) all ∙ forgets.walks root blank ∙ (types_are_enough (stateless_job fs options) needs).walks root blank

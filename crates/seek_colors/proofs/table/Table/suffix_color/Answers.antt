use Rattle.std.proofs.Common.{◌∙◌, None, Some, ap, rules, string_bytes, sym, tests}
use Rattle.std.proofs.lemmas.Iterator.Adapters.{YieldsList-from_rev_slice}
use Rattle.std.proofs.lemmas.Iterator.Search.{find_from_yields_List}
use Rattle.std.specs.Option.{option_copied}
use Rattle.seek_colors.specs.Table.{has_suffix}
use Rattle.seek_colors.proofs.TableFacts.{last_found}
use Rattle.seek_colors.proofs.table.Table.suffix_color.Goals as goal

pub returns-in_err-entry : goal.returns-in_err-entry
returns-in_err-entry c =
    let found =
    find_from_yields_List (λ it. has_suffix c.args.name.now (string_bytes it.key)) _ _ c.find.result c.find.ensures.ran (YieldsList-from_rev_slice c.args.self.now.entries.items (search rules))
    (λ x b q k. search (rules, tests))
    in
    ap option_copied c.from_residual.ensures ∙ last_found (λ it. has_suffix c.args.name.now it) c.args.self.now.entries.items None (sym (ap option_copied c.in_err-entry.was) ∙ found)

pub returns : goal.returns
returns c =
    let found =
    find_from_yields_List (λ it. has_suffix c.args.name.now (string_bytes it.key)) _ _ c.find.result c.find.ensures.ran (YieldsList-from_rev_slice c.args.self.now.entries.items (search rules))
    (λ x b q k. search (rules, tests))
    in
    ap Some c.as_str.ensures.value ∙ last_found (λ it. has_suffix c.args.name.now it) c.args.self.now.entries.items (Some c.in_ok-entry.entry.now) (sym (ap option_copied c.in_ok-entry.was) ∙ found)

use Rattle.std.proofs.Common.{◌≡◌, ◌∙◌, ◌++◌, [], map, reverse, refl, ap, sym, append-nil, eqb-true}
use Rattle.std.proofs.lemmas.List.{nil_from_length, reverse-reverse}
use Rattle.jwalk_job.specs.Entry.{item}
use Rattle.jwalk_job.specs.ReadDir.{reading}
use Rattle.jwalk_iter.proofs.ReceivedFacts.{received}
use Rattle.jwalk_iter.proofs.entries.Entries.receive.Goals as goal

pub returns-then-is_empty-clause-items : goal.returns-then-is_empty-clause-items
returns-then-is_empty-clause-items g c =
    let old = c.args.self.now.items in
    let none : old.items ≡ [] = nil_from_length old.items (sym old.ok.0 ∙ eqb-true old.len 0 (sym c.if-is_empty.ensures)) in
    ap (map item) (ap reverse c.reverse.ensures.items ∙ reverse-reverse c.into_results_list-items.result.items)
    ∙ c.into_results_list-items.ensures
    ∙ sym (append-nil (reading c.args.read).list)
    ∙ ap (λ l. (reading c.args.read).list ++ map item (reverse l)) (sym none)

pub returns : goal.returns
returns g c = record {
  reads = refl;
  refused = refl;
  items = received c.append.result c.args.self.now.items.items _ _ c.into_results_list-items.result.items (reading c.args.read).list c.append.ensures.items c.reverse.ensures.items c.into_results_list-items.ensures;
}

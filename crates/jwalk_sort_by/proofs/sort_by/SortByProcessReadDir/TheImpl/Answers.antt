use Rattle.std.proofs.Common.{map, refl, ap, sym, ◌∙◌, subst, rules}
use Rattle.std.proofs.lemmas.List.Sorted.{IsPermutation-map}
use Rattle.std.proofs.lemmas.Result.{on_ok_weaker}
use Rattle.jwalk_model.specs.ReadDir.{list_depth}
use Rattle.jwalk_job.specs.Entry.{item}
use Rattle.jwalk_job.specs.Given.{AddsErrors}
use Rattle.jwalk_sort_by.proofs.SortFacts.{counted-ordered_at, less_of, less_of-order, moved-AtDepth, on_ok, reading_as}
use Rattle.jwalk_sort_by.proofs.sort_by.SortByProcessReadDir.TheImpl.Goals as goal

pub process-tells : goal.process-tells
process-tells g _ _ _ _ c =
    let old = c.args.list.now.items in
    let new = c.new.list.now.items in
    record {
      depths = on_ok c.result (moved-AtDepth (list_depth c.args.depth) (map item old) (map item new) (IsPermutation-map item old new c.ensures.same) c.requires.depths);
      made = λ given made. on_ok_weaker c.result
          (λ sorted.
          made.3 c.args.depth c.args.path.now _ _
          ∙ reading_as _ _ _ _ (ap given.read_dir_state (sym c.ensures.state))
          (counted-ordered_at given made.0 c.args.depth old new (sorted (less_of given made.0) (less_of-order given made.0 made.1) made.2)))
          c.ensures.ordered;
      root = λ keeps at. on_ok c.result (subst (λ l. AddsErrors (map item old) (map item l)) (sym (c.ensures.root at)) (record { entries = refl; longer = search rules }));
    }

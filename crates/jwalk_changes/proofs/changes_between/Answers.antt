use Rattle.std.proofs.Common.{◌∙◌}
use Rattle.std.proofs.lemmas.Iterator.Adapters.{YieldsList-from_vec}
use Rattle.std.proofs.lemmas.Result.{IfOk-weaker, IfErr-weaker}
use Rattle.jwalk_changes.proofs.VecFacts.{differences_of, error_of}
use Rattle.jwalk_changes.proofs.changes_between.Goals as goal

pub returns-clause-all : goal.returns-clause-all
returns-clause-all g c =
    let olds = YieldsList-from_vec {s = c.into_iter.result} c.args.old.items c.into_iter.ensures.rest (c.into_iter.ensures.len ∙ c.args.old.ok.0) in
    let news = YieldsList-from_vec {s = c.into_iter-2.result} c.args.new.items c.into_iter-2.ensures.rest (c.into_iter-2.ensures.len ∙ c.args.new.ok.0) in
    let places = YieldsList-from_vec {s = c.into_iter-3.result} c.args.unknown.items c.into_iter-3.ensures.rest (c.into_iter-3.ensures.len ∙ c.args.unknown.ok.0) in
    IfOk-weaker c.all_changes.result _ _
    (λ found all. differences_of g.O.AtPath.path g.O.Entry.facts g.N.AtPath.path g.N.Entry.facts g.U.AtPath.path olds news places found.items all) c.all_changes.ensures.all

pub returns-clause-told : goal.returns-clause-told
returns-clause-told g c =
    let olds = YieldsList-from_vec {s = c.into_iter.result} c.args.old.items c.into_iter.ensures.rest (c.into_iter.ensures.len ∙ c.args.old.ok.0) in
    let news = YieldsList-from_vec {s = c.into_iter-2.result} c.args.new.items c.into_iter-2.ensures.rest (c.into_iter-2.ensures.len ∙ c.args.new.ok.0) in
    let places = YieldsList-from_vec {s = c.into_iter-3.result} c.args.unknown.items c.into_iter-3.ensures.rest (c.into_iter-3.ensures.len ∙ c.args.unknown.ok.0) in
    IfErr-weaker c.all_changes.result _ _
    (λ error is. error_of g.O.AtPath.path g.O.Entry.facts g.N.AtPath.path g.N.Entry.facts g.U.AtPath.path olds news places error is) c.all_changes.ensures.told

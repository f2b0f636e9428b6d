use Rattle.jwalk_model.specs.ReadDir.{list_depth}
use Rattle.jwalk_job.specs.Entry.{item}
use Rattle.jwalk_callbacks.proofs.DepthFilters.{all_left, keeps, made_at_depth}
use Rattle.jwalk_callbacks.proofs.by_fn.ByFnProcessReadDir.process.Goals as goal

pub returns-clause-depths : goal.returns-clause-depths
returns-clause-depths g c = rw (c.keep_depth.ensures, c.depth_below-own.ensures) (all_left item (list_depth c.args.depth) c.call-answer.new.list.items)

pub returns-clause-made : goal.returns-clause-made
returns-clause-made g c = λ given makes.
    let kept = keeps item _ (list_depth c.args.depth) c.call-answer.new.list.items c.keep_depth.new.list.items c.depth_below-own.ensures c.keep_depth.ensures in
    let made = makes _ _ _ _ _ _ _ c.requires.depths c.call-answer.ensures in
    made_at_depth item given c.args.depth c.args.path.now c.call-answer.result c.args.state.now c.call-answer.new.state c.args.list.now.items c.call-answer.new.list.items c.keep_depth.new.list.items c.requires.depths made kept

pub returns-clause-answers : goal.returns-clause-answers
returns-clause-answers g c = (c.call-answer.new.list, c.call-answer.ensures, keeps item _ (list_depth c.args.depth) c.call-answer.new.list.items c.keep_depth.new.list.items c.depth_below-own.ensures c.keep_depth.ensures)

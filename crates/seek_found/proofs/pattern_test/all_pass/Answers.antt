use Rattle.std.proofs.Common.{◌∙◌, sym}
use Rattle.seek_found.specs.PatternTest.{takes_of}
use Rattle.seek_found.proofs.TestFacts.{kept, one_passed, one_failed}
use Rattle.seek_found.proofs.pattern_test.all_pass.Goals as goal

pub returns-then-not-passes-clause-answer : goal.returns-then-not-passes-clause-answer
returns-then-not-passes-clause-answer c =
    one_failed takes_of c.args.text.now c.args.is_dir c.loop-at.tests c.args.tests.now c.loop-at.at c.index-tests-at.result c.loop-at-test.true
    c.loop-at.invariant.same (sym c.passes.ensures.answer ∙ c.if-not-passes.true)

pub returns-then-not-passes-clause-same : goal.returns-then-not-passes-clause-same
returns-then-not-passes-clause-same c =
    kept takes_of c.loop-at.tests c.loop-at.at c.passes.new.self c.index-tests-at.result c.passes.ensures.same ∙ c.loop-at.invariant.same

pub loop-at-preserved : goal.loop-at-preserved
loop-at-preserved c = record {
  same = kept takes_of c.loop-at.tests c.loop-at.at c.passes.new.self c.index-tests-at.result c.passes.ensures.same ∙ c.loop-at.invariant.same;
  passed = one_passed takes_of c.args.text.now c.args.is_dir c.loop-at.tests c.args.tests.now c.loop-at.at c.index-tests-at.result c.loop-at-test.true
      c.loop-at.invariant.same c.loop-at.invariant.passed (sym c.passes.ensures.answer ∙ c.if-not-passes.false);
}

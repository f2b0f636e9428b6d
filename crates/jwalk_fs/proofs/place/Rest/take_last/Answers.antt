use Rattle.std.proofs.Common.{◌∙◌, sym, arith, refl}
use Rattle.std.specs.Path.{components_remaining}
use Rattle.jwalk_fs.proofs.PlaceFacts.{left_root, left_name, left_name_away, left_ups, one_fewer}
use Rattle.jwalk_fs.proofs.place.Rest.take_last.Goals as goal

pub returns-in-RootDir-clause-value : goal.returns-in-RootDir-clause-value
returns-in-RootDir-clause-value c =
    sym c.loop-last.invariant.1 ∙ left_root (components_remaining c.loop-last.self.front) (components_remaining c.next_back.new.self) c.in-Some.last c.in-Some.ensures.steps c.loop-last.self.ups c.in-RootDir.is

pub returns-in-Normal-clause-value : goal.returns-in-Normal-clause-value
returns-in-Normal-clause-value c =
    sym c.loop-last.invariant.1
    ∙ left_name (components_remaining c.loop-last.self.front) (components_remaining c.next_back.new.self) c.in-Some.last c.in-Some.ensures.steps c.loop-last.self.ups c.if-self-eq0.true _ _ c.in-Normal.is refl

pub loop-last-preserved : goal.loop-last-preserved
loop-last-preserved c =
    let fewer = one_fewer (components_remaining c.loop-last.self.front) (components_remaining c.next_back.new.self) c.in-Some.last c.in-Some.ensures.steps in (
      omega (arith, c.loop-last.invariant.0, fewer),
      sym (left_name_away (components_remaining c.loop-last.self.front) (components_remaining c.next_back.new.self) c.in-Some.last c.in-Some.ensures.steps c.loop-last.self.ups c.if-self-eq0.false _ _ c.in-Normal.is refl)
          ∙ c.loop-last.invariant.1,
    )

pub returns-clause-value : goal.returns-clause-value
returns-clause-value c =
    sym c.loop-last.invariant.1
    ∙ left_ups c.loop-last.self.ups (components_remaining c.loop-last.self.front) (components_remaining c.next_back.new.self) c.if-self-eq0-2.false c.in_default.ensures.steps.0 c.in_default.ensures.steps.1

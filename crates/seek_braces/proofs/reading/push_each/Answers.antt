use Rattle.std.proofs.Common.{◌≡◌, ◌∙◌, ◌<◌, ◌++◌, ◌∷◌, Global, [], ℕ, ap, arith, length, sym}
use Rattle.std.specs.declared.vec.Vec.{Vec}
use Rattle.std.proofs.Math.ListN.{get_or}
use Rattle.std.proofs.lemmas.List.{get_or-map, length-map, map-set}
use Rattle.seek_braces.specs.Reading.{bytes_of}
use Rattle.seek_braces.proofs.ListFacts.{all_pushed, none_pushed, one_pushed}
use Rattle.seek_braces.proofs.reading.push_each.Goals as goal

pub loop-at-init : goal.loop-at-init
loop-at-init c = record { above = omega arith; same = none_pushed c.args.start c.args.byte (bytes_of c.args.texts.now) }

pub loop-at-preserved : goal.loop-at-preserved
loop-at-preserved c =
    let bytes = λ (t : Vec ℕ Global). t.items in
    let at = c.loop-at.at in
    let within : at < length c.args.texts.now = omega (arith, c.loop-at-test.true, c.loop-at.auto.texts) in
    let below : at < length (bytes_of c.args.texts.now) = omega (arith, within, length-map c.args.texts.now bytes) in
    let read : (get_or c.loop-at.texts at c.index-texts-at.result).items ≡ get_or (bytes_of c.loop-at.texts) at []
    = sym (get_or-map bytes c.loop-at.texts at c.index-texts-at.result [] c.loop-at-test.true) in
    record {
      above = omega (arith, c.loop-at.invariant.above);
      same = map-set bytes c.loop-at.texts at c.push.new.self
          ∙ one_pushed c.args.start c.args.byte (bytes_of c.args.texts.now) at (bytes_of c.loop-at.texts) c.push.new.self.items c.loop-at.invariant.above below c.loop-at.invariant.same
          (c.in_ok-push.ensures.items ∙ ap (λ t. t ++ c.args.byte ∷ []) read);
    }

pub returns : goal.returns
returns c =
    c.loop-at.invariant.same
    ∙ all_pushed c.args.start c.args.byte (bytes_of c.args.texts.now) c.loop-at.at c.loop-at.invariant.above
    (omega (arith, c.loop-at-test.false, c.loop-at.auto.texts, length-map c.args.texts.now (λ (t : Vec ℕ Global). t.items)))

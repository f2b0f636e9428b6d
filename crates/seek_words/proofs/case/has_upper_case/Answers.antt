use Rattle.std.proofs.Common.{◌≡◌, ◌∙◌, ℕ, List, chars, IsUtf8, sym, ap, subst}
use Rattle.std.specs.List.{fold}
use Rattle.std.specs.Str.Iter.{chars_rest}
use Rattle.std.proofs.lemmas.Str.{IsUtf8-past_char, chars_past_char}
use Rattle.seek_words.specs.Case.{all_read, then_read}
use Rattle.seek_words.specs.declared.case.Read.{Read}
use Rattle.seek_words.proofs.CaseFacts.{none_left}
use Rattle.seek_words.proofs.case.has_upper_case.Goals as goal

pub loop-next-init : goal.loop-next-init
loop-next-init c =
    let all : chars_rest c.into_iter-next-iterator.result ≡ c.args.pattern.now
    = ap chars_rest c.into_iter-next-iterator.ensures.into_iter_gives ∙ c.chars-next-items.ensures.rest in (
      subst IsUtf8 (sym all) c.utf8.pattern,
      ap (λ (read : Read). fold then_read read (chars (chars_rest c.into_iter-next-iterator.result))) c.none_read-read.ensures
          ∙ ap (λ (text : List ℕ). all_read c.args.glob c.args.fixed text) all,
    )

pub loop-next-preserved : goal.loop-next-preserved
loop-next-preserved c =
    let held = c.loop-next.invariant in
    let parts = c.in-Some.ensures.steps.0 in
    let step = chars_past_char _ _ c.in-Some.next held.0 parts in (
      IsUtf8-past_char _ _ c.in-Some.next held.0 parts,
      ap (λ (read : Read). fold then_read read (chars (chars_rest c.next.new.self))) c.then-read.ensures
          ∙ (ap (λ (cs : List ℕ). fold then_read c.loop-next.read cs) (sym step) ∙ held.1),
    )

pub returns : goal.returns
returns c = none_left c.loop-next.read _ _ c.in-None.ensures.steps.0.0 c.loop-next.invariant.1

use Rattle.std.proofs.Common.{◌∙◌, true, false, Option, Some, ℕ, ap, sym}
use Rattle.seek_words.specs.Length.{together}
use Rattle.seek_words.proofs.LengthFacts.{lengths_by, lengths_none, lengths_unknown}
use Rattle.seek_words.proofs.length.+lengths_in.Goals as goal

pub returns-then-most-eq0 : goal.returns-then-most-eq0
returns-then-most-eq0 t c = lengths_none c.args.most c.args.text.now c.if-most-eq0.true

pub returns-in_err-length : goal.returns-in_err-length
returns-in_err-length t c =
    c.from_residual.ensures ∙ lengths_unknown c.args.most c.args.text.now c.if-most-eq0.false (sym c.in_err-length.was ∙ c.first_length.ensures)

pub returns-then-is_empty : goal.returns-then-is_empty
returns-then-is_empty t c =
    c.together.ensures
    ∙ lengths_by c.args.most c.args.text.now c.after_length-rest.result.now true (Some c.in_ok-length.length) c.if-most-eq0.false c.after_length-rest.ensures
    (sym c.is_empty.ensures ∙ c.if-is_empty.true) (sym c.in_ok-length.was ∙ c.first_length.ensures)

pub returns-in_err-more : goal.returns-in_err-more
returns-in_err-more t c =
    c.from_residual-in_err-more.ensures ∙ ap (λ (more : Option ℕ). together (Some c.in_ok-length.length) more) (sym c.in_err-more.was ∙ c.lengths_in.ensures)
    ∙ lengths_by c.args.most c.args.text.now c.after_length-rest.result.now false (Some c.in_ok-length.length) c.if-most-eq0.false c.after_length-rest.ensures
    (sym c.is_empty.ensures ∙ c.if-is_empty.false) (sym c.in_ok-length.was ∙ c.first_length.ensures)

pub returns : goal.returns
returns t c =
    c.together-2.ensures ∙ ap (λ (more : Option ℕ). together (Some c.in_ok-length.length) more) (sym c.in_ok-more.was ∙ c.lengths_in.ensures)
    ∙ lengths_by c.args.most c.args.text.now c.after_length-rest.result.now false (Some c.in_ok-length.length) c.if-most-eq0.false c.after_length-rest.ensures
    (sym c.is_empty.ensures ∙ c.if-is_empty.false) (sym c.in_ok-length.was ∙ c.first_length.ensures)

use Rattle.std.proofs.Common.{◌≡◌, ◌∙◌, ap, false, inr, map, sym, subst, rules}
use Rattle.std.specs.Prelude.{is_some}
use Rattle.clap.specs.Words.{app_of}
use Rattle.program_parts.specs.declared.refusal.CommonRefusal.TheVariants.{Words}
use Rattle.seek_words.specs.Asks.{Asks}
use Rattle.seek_words.specs.Conflict.{has_conflict}
use Rattle.seek_words.proofs.EndFacts.{read_by, returned_for, value_refused}
use Rattle.seek_words.specs.declared.refusal.Refusal.TheVariants.{Common}
use Rattle.seek_words.proofs.words.read_words.Goals.{else-not-asked-via-then-not-asked+else-has_slash, else-not-asked-via-else-not-asked}
use Rattle.seek_words.proofs.words.read_words.Goals as goal

pub returns-in_err-found-clause-refused : goal.returns-in_err-found-clause-refused
returns-in_err-found-clause-refused g c =
    returned_for (map g.S.AsStr.text c.args.words.now) c.from_residual-in_err-found.result (Common (Words c.in_err-found.field-0.0)) c.from_residual-in_err-found.ensures.1
    (inr (app_of c.in_ok-command.field-0, c.in_ok-command.ensures, c.in_err-found.ensures.refused))

pub returns-in-Some-clause-refused : goal.returns-in-Some-clause-refused
returns-in-Some-clause-refused g c =
    let read = c.in_ok-found.ensures.read in
    inr (app_of c.in_ok-command.field-0, c.in_ok-command.ensures, ap has_conflict (sym read.values) ∙ sym c.conflict_of.ensures ∙ ap is_some c.in-Some.is)

pub returns-in_err-asked-clause-refused : goal.returns-in_err-asked-clause-refused
returns-in_err-asked-clause-refused g c =
    let refusal = c.in_err-asked.field-0.0 in
    returned_for (map g.S.AsStr.text c.args.words.now) c.from_residual-in_err-asked.result refusal c.from_residual-in_err-asked.ensures.1
    (value_refused _ _ (read_by c.in_ok-command.ensures c.in_ok-found.ensures.read) refusal c.in_err-asked.ensures.refused)

pub returns-then-has_slash-clause-refused : goal.returns-then-has_slash-clause-refused
returns-then-has_slash-clause-refused g c =
    let asked = c.in_ok-asked.asked in
    let by_name : asked.full_path ≡ false = search rules in (
      app_of c.in_ok-command.field-0,
      c.in_ok-command.ensures,
      asked,
      subst (λ (rows : _). Asks rows asked) c.in_ok-found.ensures.read.values c.in_ok-asked.ensures.asked,
      record { by_name = by_name; slash = sym c.has_slash.ensures ∙ c.if-has_slash.true },
    )

pub returns-clause-asked : goal.returns-clause-asked
returns-clause-asked g c =
    let asked = c.in_ok-asked.asked in
    record {
      rows = _;
      values = read_by c.in_ok-command.ensures c.in_ok-found.ensures.read;
      free = sym c.conflict_of.ensures ∙ ap is_some c.in_default.is;
      asks = c.in_ok-asked.ensures.asked;
      slash = λ by_name. elim c.else-not-asked.branch [
        | else-not-asked-via-then-not-asked+else-has_slash w ↦ sym w.has_slash.ensures ∙ w.if-has_slash.false
        | else-not-asked-via-else-not-asked w ↦ absurd (cc (by_name, w.if-not-asked.false))
      ];
    }

use Rattle.std.proofs.Common.{◌∙◌, ap, is_some, map, sym, subst}
use Rattle.clap.specs.Words.{App, HasKind, fault_of, found_of, matches_of, rows_of}
use Rattle.program_parts.specs.Matches.{GiveValues}
use Rattle.program_parts.specs.declared.refusal.CommonRefusal.TheVariants.{Words}
use Rattle.tally_words.specs.Conflict.{has_conflict}
use Rattle.tally_words.specs.declared.refusal.Refusal.TheVariants.{Common}
use Rattle.tally_words.proofs.RefusalFacts.{returned_for, size_refused}
use Rattle.tally_words.proofs.words.read_words.Goals as goal

pub returns-in_err-found-clause-refused : goal.returns-in_err-found-clause-refused
returns-in_err-found-clause-refused g c =
    let words = map g.S.AsStr.text c.args.words.now in
    returned_for words c.from_residual-in_err-found.result (Common (Words c.in_err-found.field-0.0)) c.from_residual-in_err-found.ensures.1
    (subst (λ (a : App). HasKind (fault_of a words) c.in_err-found.field-0.0) c.in_ok-command.ensures c.in_err-found.ensures.refused)

pub returns-in-Some-clause-refused : goal.returns-in-Some-clause-refused
returns-in-Some-clause-refused g c =
    ap has_conflict (sym (c.in_ok-found.ensures.read.values ∙ ap (λ (a : App). matches_of a (map g.S.AsStr.text c.args.words.now)) c.in_ok-command.ensures)) ∙ sym c.conflict_of.ensures ∙ ap is_some c.in-Some.is

pub returns-in_err-threshold-clause-refused : goal.returns-in_err-threshold-clause-refused
returns-in_err-threshold-clause-refused g c =
    let words = map g.S.AsStr.text c.args.words.now in
    let rows = rows_of (found_of c.in_ok-found.found) in
    let refusal = c.in_err-threshold.field-0.0 in
    returned_for words c.from_residual-in_err-threshold.result refusal c.from_residual-in_err-threshold.ensures.1
    (size_refused words rows (subst (λ (a : App). GiveValues a words rows) c.in_ok-command.ensures c.in_ok-found.ensures.read) refusal c.in_err-threshold.ensures.refused)

pub returns-clause-asked : goal.returns-clause-asked
returns-clause-asked g c =
    let rows = rows_of (found_of c.in_ok-found.found) in
    record {
      rows = rows;
      values = subst (λ (a : App). GiveValues a (map g.S.AsStr.text c.args.words.now) rows) c.in_ok-command.ensures c.in_ok-found.ensures.read;
      free = sym c.conflict_of.ensures ∙ ap is_some c.in_default.is;
      asks = c.in_ok-asked_of.ensures;
    }

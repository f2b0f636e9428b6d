use Rattle.std.proofs.Common.{◌∙◌, ap, is_some, map, subst, sym}
use Rattle.clap.specs.Words.{App, HasKind, fault_of, found_of, matches_of, rows_of}
use Rattle.program_parts.specs.Matches.{GiveValues}
use Rattle.program_parts.proofs.RefusalFacts.{refused_for}
use Rattle.since_words.specs.Command.{since_app}
use Rattle.since_words.specs.Refusal.{has_conflict}
use Rattle.since_words.proofs.words.read_words.Goals as goal

pub returns-in_err-found-clause-refused : goal.returns-in_err-found-clause-refused
returns-in_err-found-clause-refused g c =
    let words = map g.S.AsStr.text c.args.words.now in
    refused_for since_app has_conflict words c.from_residual-in_err-found.result c.in_err-found.field-0.0
    (subst (λ (a : App). HasKind (fault_of a words) c.in_err-found.field-0.0) c.in_ok-command.ensures c.in_err-found.ensures.refused)
    c.from_residual-in_err-found.ensures.1

pub returns-in-Some-clause-refused : goal.returns-in-Some-clause-refused
returns-in-Some-clause-refused g c =
    ap has_conflict (sym (c.in_ok-found.ensures.read.values ∙ ap (λ (a : App). matches_of a (map g.S.AsStr.text c.args.words.now)) c.in_ok-command.ensures)) ∙ sym c.conflict_of.ensures ∙ ap is_some c.in-Some.is

pub returns-clause-asked : goal.returns-clause-asked
returns-clause-asked g c =
    let rows = rows_of (found_of c.in_ok-found.found) in
    record {
      rows = rows;
      values = subst (λ (a : App). GiveValues a (map g.S.AsStr.text c.args.words.now) rows) c.in_ok-command.ensures c.in_ok-found.ensures.read;
      free = sym c.conflict_of.ensures ∙ ap is_some c.in_default.is;
      asks = c.in_ok-asked_of.ensures;
    }

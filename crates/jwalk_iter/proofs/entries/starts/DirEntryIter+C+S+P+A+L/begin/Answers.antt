use Rattle.std.proofs.Common.{◌∙◌, refl, sym, ap, subst}
use Rattle.jwalk_readings.specs.ReadAhead.{BeginsWith}
use Rattle.jwalk_readings.specs.ReadDirIter as readings
use Rattle.jwalk_readings.specs.ReadDirIter.{base_of}
use Rattle.jwalk_readings.proofs.ResultFacts.{none_on_ok}
use Rattle.jwalk_iter.proofs.entries.starts.DirEntryIter+C+S+P+A+L.begin.Goals as goal

pub returns-in_err-read_children_specs : goal.returns-in_err-read_children_specs
returns-in_err-read_children_specs g c = record {
  base = refl;
  refused = refl;
  items = none_on_ok _ c.from_residual.result c.from_residual.ensures.0;
  children = none_on_ok _ c.from_residual.result c.from_residual.ensures.0;
  ahead = none_on_ok _ c.from_residual.result c.from_residual.ensures.0;
}

pub returns-in_err-begin : goal.returns-in_err-begin
returns-in_err-begin g c = record {
  base = c.begin.ensures.base;
  refused = refl;
  items = none_on_ok _ c.from_residual-in_err-begin.result c.from_residual-in_err-begin.ensures.0;
  children = none_on_ok _ c.from_residual-in_err-begin.result c.from_residual-in_err-begin.ensures.0;
  ahead = none_on_ok _ c.from_residual-in_err-begin.result c.from_residual-in_err-begin.ensures.0;
}

pub returns-in_err-receive : goal.returns-in_err-receive
returns-in_err-receive g c =
    let received = c.in_err-receive.ensures in
    record {
      base = ap base_of received.reads ∙ c.begin.ensures.base;
      refused = received.refused;
      items = none_on_ok _ c.from_residual-in_err-receive.result c.from_residual-in_err-receive.ensures.0;
      children = none_on_ok _ c.from_residual-in_err-receive.result c.from_residual-in_err-receive.ensures.0;
      ahead = none_on_ok _ c.from_residual-in_err-receive.result c.from_residual-in_err-receive.ensures.0;
    }

pub returns-clause-base : goal.returns-clause-base
returns-clause-base g c = ap base_of c.in_ok-receive.ensures.reads ∙ c.begin.ensures.base

pub returns-clause-refused : goal.returns-clause-refused
returns-clause-refused g c = c.in_ok-receive.ensures.refused

pub returns-clause-items : goal.returns-clause-items
returns-clause-items g c = c.in_ok-receive.ensures.items

pub returns-clause-ahead : goal.returns-clause-ahead
returns-clause-ahead g c =
    let begun = c.in_ok-begin.ensures in
    subst (λ reads. BeginsWith (readings.to_read reads) (readings.frontier_of reads) (readings.read_ahead reads)) (sym c.in_ok-receive.ensures.reads)
    (subst (λ specs. BeginsWith specs (readings.frontier_of c.begin.new.self) (readings.read_ahead c.begin.new.self)) (sym begun.to_read) begun.read_ahead)

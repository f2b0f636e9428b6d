use Rattle.std.proofs.Common.{sym, ap, subst, arith}
use Rattle.jwalk_readings.specs.ReadDirIter.{readings_by}
use Rattle.jwalk_iter.proofs.FillFacts.{Filled, none_filled, one_filled, fills_up, fills_in_part, fills_all}
use Rattle.jwalk_iter.proofs.entries.on_threads.DirEntryIter+C+S+P+A+L.fill_on.Goals as goal

pub loop-filled-init : goal.loop-filled-init
loop-filled-init g c = record { lawful = c.requires; sofar = none_filled (readings_by g.S.FileSystem g.P.ProcessReadDir g.C.ReadDirState.Clone g.C.DirEntryState.Default g.L.Readers) c.args.n c.args.self.now c.args.out.now.items }

pub returns-in_err-reserve : goal.returns-in_err-reserve
returns-in_err-reserve g c =
    fills_in_part (readings_by g.S.FileSystem g.P.ProcessReadDir g.C.ReadDirState.Clone g.C.DirEntryState.Default g.L.Readers) c.args.n c.args.self.now c.args.out.now.items c.from_residual.result c.loop-filled.filled c.reserve.new.self.items c.loop-filled.self c.from_residual.ensures.0
    (subst (λ l. Filled (readings_by g.S.FileSystem g.P.ProcessReadDir g.C.ReadDirState.Clone g.C.DirEntryState.Default g.L.Readers) c.args.n c.args.self.now c.args.out.now.items c.loop-filled.filled l c.loop-filled.self) (sym c.in_err-reserve.ensures.items) c.loop-filled.invariant.sofar) c.loop-filled-test.true

pub returns-in_default : goal.returns-in_default
returns-in_default g c =
    fills_all (readings_by g.S.FileSystem g.P.ProcessReadDir g.C.ReadDirState.Clone g.C.DirEntryState.Default g.L.Readers) c.args.n c.args.self.now c.args.out.now.items c.loop-filled.filled c.reserve.new.self.items c.loop-filled.self c.next_on.new.self
    (subst (λ l. Filled (readings_by g.S.FileSystem g.P.ProcessReadDir g.C.ReadDirState.Clone g.C.DirEntryState.Default g.L.Readers) c.args.n c.args.self.now c.args.out.now.items c.loop-filled.filled l c.loop-filled.self) (sym c.in_ok-reserve.ensures.items) c.loop-filled.invariant.sofar) c.loop-filled-test.true c.in_default.ensures

pub loop-filled-preserved : goal.loop-filled-preserved
loop-filled-preserved g c =
    record {
      lawful = rw (ap (λ b. b.job) c.in-Some.ensures.base) c.loop-filled.invariant.lawful;
      sofar = rw (c.push_reserved.ensures.items, c.in_ok-reserve.ensures.items)
          (one_filled (readings_by g.S.FileSystem g.P.ProcessReadDir g.C.ReadDirState.Clone g.C.DirEntryState.Default g.L.Readers) c.args.n c.args.self.now c.args.out.now.items c.loop-filled.filled c.loop-filled.out.items c.loop-filled.self c.next_on.new.self c.in-Some.answer c.loop-filled.invariant.sofar c.loop-filled-test.true c.in-Some.ensures);
    }

pub returns : goal.returns
returns g c = fills_up (readings_by g.S.FileSystem g.P.ProcessReadDir g.C.ReadDirState.Clone g.C.DirEntryState.Default g.L.Readers) c.args.n c.args.self.now c.args.out.now.items c.loop-filled.filled c.loop-filled.out.items c.loop-filled.self c.loop-filled.invariant.sofar (omega (arith, c.loop-filled-test.false))

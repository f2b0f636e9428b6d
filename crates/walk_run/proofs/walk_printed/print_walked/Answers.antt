use Rattle.std.proofs.Common.{ap}
use Rattle.std.specs.Io.KnownBytes.{append_known}
use Rattle.jwalk.specs.DirEntryIter.{Answers}
use Rattle.walk_run.proofs.PrintFacts.{nothing_printed, one_printed, all_printed}
use Rattle.walk_run.proofs.walk_printed.print_walked.Goals as goal

pub loop-answer-init : goal.loop-answer-init
loop-answer-init g c = record {
  lawful = c.requires;
  so_far = nothing_printed (Answers g.S.FileSystem g.P.ProcessReadDir g.C.ReadDirState.Clone g.C.DirEntryState.Default g.L.Readers) c.args.walk.now (g.W.Write.contents c.args.out.now) c.in_ok-gathered.gathered.bytes.items c.in_ok-gathered.ensures;
}

pub loop-answer-preserved : goal.loop-answer-preserved
loop-answer-preserved g c = record {
  lawful = rw (ap (λ b. b.job) c.in-Some.ensures.base) c.loop-answer.invariant.lawful;
  so_far = one_printed (Answers g.S.FileSystem g.P.ProcessReadDir g.C.ReadDirState.Clone g.C.DirEntryState.Default g.L.Readers) c.args.walk.now c.loop-answer.walk c.next_on.new.self (g.W.Write.contents c.args.out.now)
      (append_known (g.W.Write.contents c.loop-answer.out) c.loop-answer.gathered.bytes.items) (append_known (g.W.Write.contents c.print_one.new.out) c.print_one.new.gathered.bytes.items)
      c.loop-answer.clean c.in_ok-clean.field-0 c.in-Some.answer c.loop-answer.invariant.so_far c.in-Some.ensures c.in_ok-clean.ensures.printed c.in_ok-clean.ensures.entry;
}

pub returns-clause-printed : goal.returns-clause-printed
returns-clause-printed g c =
    all_printed (Answers g.S.FileSystem g.P.ProcessReadDir g.C.ReadDirState.Clone g.C.DirEntryState.Default g.L.Readers) c.args.walk.now c.loop-answer.walk c.next_on.new.self (g.W.Write.contents c.args.out.now)
    (g.W.Write.contents c.loop-answer.out) (g.W.Write.contents c.write_rest.new.out) c.loop-answer.gathered.bytes.items c.loop-answer.clean c.loop-answer.invariant.so_far c.in_default.ensures c.in_ok-write_rest.ensures.written

use Rattle.std.proofs.Common.{Some, None, inl, inr, refl, sym, ap, length, option_map}
use Rattle.jwalk_job.specs.ReadDir.{reading}
use Rattle.tree_crew.specs.declared.crew.NotStarted.TheVariants.{Memory}
use Rattle.jwalk.proofs.CrewStartFacts.{reads_alone, alone_from_root, held_count, held_of, list_of, root_held}
use Rattle.jwalk_iter.specs.DirEntryIter.{reads_of}
use Rattle.jwalk_iter.proofs.StartFacts.{alone_steady}
use Rattle.jwalk.proofs.walk_dir.crew_start.from_root_alone.Goals as goal

pub returns-then-is_refused-clause-from_root : goal.returns-then-is_refused-clause-from_root
returns-then-is_refused-clause-from_root g c =
    let is = c.from_root-walk.ensures in
    let refusal = is.refused (sym c.if-is_refused.ensures) in
    alone_from_root g.C.ReadDirState.Clone (option_map reading c.args.read) c.args.job c.from_root-walk.result (Some Memory) is.own (λ no. cc) is.job is.within is.sourced is.placed (inl refusal) is.width is.ahead refusal (λ root. inl refusal) (λ one. ap length refusal.tells)

pub returns-clause-from_root : goal.returns-clause-from_root
returns-clause-from_root g c =
    let is = c.from_root-walk.ensures in
    let started = sym c.if-is_refused.ensures in
    alone_from_root g.C.ReadDirState.Clone (option_map reading c.args.read) c.args.job c.from_root-walk.result None is.own (λ no. cc) is.job is.within is.sourced is.placed (inr (is.depth started)) is.width is.ahead (λ given counts. held_of given c.args.read c.from_root-walk.result (is.held given counts started)) (λ root. inr (root_held (option_map reading c.args.read) c.from_root-walk.result (list_of c.args.read c.from_root-walk.result (is.list started)) root)) (held_count (option_map reading c.args.read) c.from_root-walk.result started (list_of c.args.read c.from_root-walk.result (is.list started)))

pub returns-then-is_refused-clause-most : goal.returns-then-is_refused-clause-most
returns-then-is_refused-clause-most g c = rw (reads_alone (reads_of c.from_root-walk.result) c.from_root-walk.ensures.own).1 refl

pub returns-clause-most : goal.returns-clause-most
returns-clause-most g c = rw (reads_alone (reads_of c.from_root-walk.result) c.from_root-walk.ensures.own).1 refl

pub returns-then-is_refused-clause-steady : goal.returns-then-is_refused-clause-steady
returns-then-is_refused-clause-steady g c = λ given steady. alone_steady g.S.FileSystem g.P.ProcessReadDir g.C.ReadDirState.Clone g.C.DirEntryState.Default g.L.Readers c.from_root-walk.result given c.from_root-walk.ensures.own steady c.from_root-walk.ensures.ahead.done

pub returns-clause-steady : goal.returns-clause-steady
returns-clause-steady g c = λ given steady. alone_steady g.S.FileSystem g.P.ProcessReadDir g.C.ReadDirState.Clone g.C.DirEntryState.Default g.L.Readers c.from_root-walk.result given c.from_root-walk.ensures.own steady c.from_root-walk.ensures.ahead.done

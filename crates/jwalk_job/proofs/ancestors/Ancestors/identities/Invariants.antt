use Rattle.std.proofs.Common.{◌≡◌, map, take}
use Rattle.std.specs.Prelude.{IfSome}
use Rattle.jwalk_model.specs.Job.{identity_at}
use Rattle.jwalk_job.specs.Text.{text}
use Rattle.jwalk_job.proofs.ancestors.Ancestors.identities.Given as goal

-- those so far are the identities of the paths that were gone over, and so is that of the one before
abbrev pub invariant-loop-path : goal.invariant-loop-path
invariant-loop-path g l = g.S.FileSystem.IsFixed l.fs
    → (l.known.items ≡ map (identity_at (g.S.FileSystem.functions l.fs)) (map text (take l.path-index l.paths)))
    × IfSome l.before (λ b. b.1 ≡ identity_at (g.S.FileSystem.functions l.fs) b.0.now)

use Rattle.std.proofs.Common.{◌≡◌, ℕ, Some}
use Rattle.std.specs.Prelude.{string_bytes}
use Rattle.tally_run.specs.Above.{above, folder_at}
use Rattle.tally_run.proofs.roots.Roots.has_above.Given as goal

-- the path leads so far up, and to the directory at hand
abbrev pub invariant-loop : goal.invariant-loop
invariant-loop g l =
    g.S.FileSystem.IsFixed l.disk → folder_at (g.S.FileSystem.functions l.disk) l.folder ≡ Some l.fn.at
    → (up : ℕ) × (string_bytes l.path ≡ above up l.folder) × (folder_at (g.S.FileSystem.functions l.disk) (above up l.folder) ≡ Some l.at)

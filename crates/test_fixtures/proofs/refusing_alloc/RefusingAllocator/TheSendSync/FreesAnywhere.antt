-- A piece may be given back on another thread, if the inner allocator's may.
use mir.Syntax.{Dict}
use denote.RattleType.{RattleType}
use denote.Param.Send.{Frees}
use Rattle.std.specs.declared.alloc.Allocator.{Ghosts}
use Rattle.test_fixtures.specs.contracts.refusing_alloc.RefusingAllocator.TheImpl.{ghosts}

pub frees : (B : RattleType) (g : Ghosts B.Denot) (d e : Dict) → Frees g g.dealloc_token → Frees (ghosts B g d e) (ghosts B g d e).dealloc_token
frees B g d e inner = record { frees = λ it τ p. inner.frees it.inner τ p }

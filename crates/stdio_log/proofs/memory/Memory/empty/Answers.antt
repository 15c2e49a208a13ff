-- `memory::Memory::empty` meets its contract. Assumes nothing.
use mathlib.Core.Path.{refl}
use native.Mathlib.Omega.{arith}
use Rattle.log_session.specs.Desk.{empty_desk}
use Rattle.log_bounds.proofs.Bounds.{empty-bounded}
use Rattle.stdio_log.proofs.memory.Memory.empty.Goals as goal

pub returns : goal.returns
returns c = record { held = c.empty.ensures; counted = refl }

pub invariant_of-result : goal.invariant_of-result
invariant_of-result c = record { held = ∣ record { desk = empty_desk; holds = c.empty.ensures; bounded = empty-bounded } ∣₁; few = omega arith }

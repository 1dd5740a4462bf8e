-- A well-formed record's bindings have room, so that their places can be lent
use Prim.Native.Nat.{◌≤◌}
use mathlib.Core.Path.{◌≡◌}
use mathlib.Core.Bool.{true}
use native.Mathlib.Omega.{arith}
use lib.ListN.{length}
use Rattle.queue_record.specs.WellFormed.{well_formed}
use Rattle.queue_record.specs.declared.record.Queue.{Queue}
use Rattle.queue_record.proofs.Fit.{fit}

pub bindings_within : (q : Queue) → well_formed q ≡ true → length q.bindings ≡ 16 → q.bound ≤ length q.bindings
bindings_within q h l = let b : q.bound ≤ 16 = (fit q h).given.bound in omega arith

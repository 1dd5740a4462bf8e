-- A refusal's number is above 0
use mathlib.Core.Path.{◌≡◌}
use native.Mathlib.Omega.{arith}
use Rattle.queue_record.specs.Refusals.{refusal_number}
use Rattle.queue_record.specs.declared.refusal.Refusal.{Refusal}
use Rattle.queue_record.specs.declared.refusal.Refusal.TheVariants.{Broken, BadNumber, NoSlot, NotPending, NoAttempt, NotOut, KeptOnDone, NoRetry, Hollow, NoGroup, GroupsFull}
use Rattle.queue_record.specs.declared.refusal.Refusal.TheVariants.{Sealed, NotDrained, TooManyBindings, BadOutcome, BadLog, LogFull, BadText, NoId, NothingKept, NoFurtherAttempt}

pub refusal_above : (r : Refusal) → refusal_number r ≡ 0 → ⊥
refusal_above Broken e = omega arith
refusal_above BadNumber e = omega arith
refusal_above NoSlot e = omega arith
refusal_above NotPending e = omega arith
refusal_above NoAttempt e = omega arith
refusal_above NotOut e = omega arith
refusal_above KeptOnDone e = omega arith
refusal_above NoRetry e = omega arith
refusal_above Hollow e = omega arith
refusal_above NoGroup e = omega arith
refusal_above GroupsFull e = omega arith
refusal_above Sealed e = omega arith
refusal_above NotDrained e = omega arith
refusal_above TooManyBindings e = omega arith
refusal_above BadOutcome e = omega arith
refusal_above BadLog e = omega arith
refusal_above LogFull e = omega arith
refusal_above BadText e = omega arith
refusal_above NoId e = omega arith
refusal_above NothingKept e = omega arith
refusal_above NoFurtherAttempt e = omega arith

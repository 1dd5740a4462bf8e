-- R63: the numbers of refusal, by their names
use Rattle.std.specs.Prelude.{ℕ, Option, Some, None}
use Rattle.queue_record.specs.declared.refusal.Refusal.{Refusal}
use Rattle.queue_record.specs.declared.refusal.Refusal.TheVariants.{Broken, BadNumber, NoSlot, NotPending, NoAttempt, NotOut, KeptOnDone, NoRetry, Hollow, NoGroup, GroupsFull, Sealed, NotDrained, TooManyBindings, BadOutcome, BadLog, LogFull, BadText, NoId, NothingKept, NoFurtherAttempt}

abbrev pub done : ℕ
done = 0

abbrev pub broken : ℕ
broken = 1

abbrev pub bad_number : ℕ
bad_number = 2

abbrev pub no_slot : ℕ
no_slot = 3

abbrev pub not_pending : ℕ
not_pending = 4

abbrev pub no_attempt : ℕ
no_attempt = 5

abbrev pub not_out : ℕ
not_out = 6

abbrev pub kept_on_done : ℕ
kept_on_done = 7

abbrev pub no_retry : ℕ
no_retry = 8

abbrev pub hollow : ℕ
hollow = 9

abbrev pub no_group : ℕ
no_group = 10

abbrev pub groups_full : ℕ
groups_full = 11

abbrev pub sealed : ℕ
sealed = 12

abbrev pub not_drained : ℕ
not_drained = 13

abbrev pub too_many_bindings : ℕ
too_many_bindings = 14

abbrev pub bad_outcome : ℕ
bad_outcome = 15

abbrev pub bad_log : ℕ
bad_log = 16

abbrev pub log_full : ℕ
log_full = 17

abbrev pub bad_text : ℕ
bad_text = 18

abbrev pub no_id : ℕ
no_id = 19

abbrev pub nothing_kept : ℕ
nothing_kept = 20

abbrev pub no_further_attempt : ℕ
no_further_attempt = 21

-- the number of each
abbrev pub refusal_number : Refusal → ℕ
refusal_number Broken = broken
refusal_number BadNumber = bad_number
refusal_number NoSlot = no_slot
refusal_number NotPending = not_pending
refusal_number NoAttempt = no_attempt
refusal_number NotOut = not_out
refusal_number KeptOnDone = kept_on_done
refusal_number NoRetry = no_retry
refusal_number Hollow = hollow
refusal_number NoGroup = no_group
refusal_number GroupsFull = groups_full
refusal_number Sealed = sealed
refusal_number NotDrained = not_drained
refusal_number TooManyBindings = too_many_bindings
refusal_number BadOutcome = bad_outcome
refusal_number BadLog = bad_log
refusal_number LogFull = log_full
refusal_number BadText = bad_text
refusal_number NoId = no_id
refusal_number NothingKept = nothing_kept
refusal_number NoFurtherAttempt = no_further_attempt

-- 0 where nothing refuses
abbrev pub result_number : Option Refusal → ℕ
result_number None = done
result_number (Some refusal) = refusal_number refusal

-- A history made call by call: eight kinds of calls on a bench whose every state is written out, so that each call computes
use Prim.Native.Nat.{ℕ, ◌*◌}
use mathlib.Core.Path.{◌≡◌, refl, sym, subst}
use mathlib.Core.Bool.{Bool, true, false}
use mathlib.Core.List.{List, [], ◌∷◌, ◌++◌}
use lib.ListN.{take, drop}
use Rattle.stage.specs.declared.phases.Phase.{Phase}
use Rattle.stage.specs.declared.phases.Phase.TheVariants.{Idle, Pending, Ended, Closed}
use Rattle.queue_decisions.specs.Births.{register_refusal, land_refusal}
use Rattle.queue_decisions.specs.Pops.{pop_due}
use Rattle.queue_decisions.specs.Answers.{complete_refusal}
use Rattle.queue_decisions.specs.Renewals.{retry_due}
use Rattle.queue_record.specs.Refusals.{done}
use Rattle.queue_record.specs.Record.{with_slot, with_count, with_selection, with_failed, with_issued}
use Rattle.queue_record.specs.WellFormed.{well_formed}
use Rattle.queue_record.specs.Newest.{newest}
use Rattle.queue_record.specs.Openings.{opened, iterator_of, iterator_opened}
use Rattle.queue_record.specs.declared.record.Kind.TheVariants.{Iterator}
use Rattle.queue_record.specs.declared.record.Ticket.{Ticket}
use Rattle.queue_record.specs.declared.record.Queue.{Queue}
use Rattle.queue_births.specs.Births.{registered, landed}
use Rattle.queue_steps.specs.Attempts.{popped, completed, retried}
use Rattle.queue_stages.specs.Stages.{admitted, ended, cancelled_by}
use Rattle.cleanup_queue.specs.Runs.{Call, register, land, pop, complete, retry, admit, end, cancel}
use Rattle.log_rows.specs.Rows.{rows, written, flats}
use Rattle.log_rows.specs.Appending.{rows_fit, has_room}
use Rattle.log_entries.specs.Noting.{noted}
use Rattle.log_births.specs.Births.{register_recorded, land_recorded}
use Rattle.log_attempts.specs.Attempts.{pop_recorded, complete_recorded, retry_recorded}
use Rattle.log_stages.specs.Stages.{admit_recorded, end_recorded, cancel_recorded}
use Rattle.history.specs.Histories.{Bench, bench, called, number_of, Start, History, opens, calls, Made, no_call, one_call, rows_of, opened_queue}
use Rattle.history.proofs.Exhibit.{lent, shown, of_each_kind}
use Rattle.std.specs.Prelude.{Option, Some, None}

-- ---- calls that are made lead from a history to a history
pub made_history : {s : Start} {a b : Bench} {cs : List Call} → History s a → Made a cs b → History s b
made_history h no_call = h
made_history h (one_call {c = c} e m) = made_history (calls h c e) m

-- one call, accepted, that leads from one bench to the next
record Goes (a : Bench) (c : Call) (b : Bench) : Type 0 where
  accepted : number_of a c ≡ done
  leaves : called a c ≡ b

before : {a b z : Bench} {c : Call} {cs : List Call} → Goes a c b → Made b cs z → Made a (c ∷ cs) z
before {z = z} {cs = cs} g m = one_call g.accepted (subst (λ (x : Bench). Made x cs z) (sym g.leaves) m)

-- ---- the bench at each step
abbrev ticket : ℕ → ℕ → Ticket
ticket token attempt = record { domain = 4; token = token; attempt = attempt }

abbrev at : ℕ → ℕ → ℕ → ℕ → Option Ticket → Bool → Bool → Phase → Queue
at next count first second s failed issued phase =
    with_issued (with_failed (with_selection (with_count (with_slot (with_slot (opened Iterator phase 4 next (3 ∷ [])) 0 first) 1 second) count) s) failed) issued

-- behind its first rows the log holds the words that were lent
abbrev behind : ℕ → Queue → Bench
behind used q = bench q used (flats (take used of_each_kind) ++ drop (used * 5) lent)

opened_is : bench (opened_queue shown) 0 lent ≡ behind 0 (at 5 0 0 0 None false false Idle)
unfolding iterator_opened iterator_of
opened_is = refl

step1 : Goes (behind 0 (at 5 0 0 0 None false false Idle)) (admit true) (behind 1 (at 5 0 0 0 None false false Pending))
unfolding admit_recorded admitted well_formed noted rows_fit has_room written
step1 = record { accepted = refl; leaves = refl }

step2 : Goes (behind 1 (at 5 0 0 0 None false false Pending)) (land 71) (behind 2 (at 5 1 71 0 None false false Idle))
unfolding land_recorded landed land_refusal well_formed noted rows_fit has_room written
step2 = record { accepted = refl; leaves = refl }

step3 : Goes (behind 2 (at 5 1 71 0 None false false Idle)) (register 72) (behind 3 (at 5 2 71 72 None false false Idle))
unfolding register_recorded registered register_refusal well_formed noted rows_fit has_room written
step3 = record { accepted = refl; leaves = refl }

step4 : Goes (behind 3 (at 5 2 71 72 None false false Idle)) (admit true) (behind 4 (at 5 2 71 72 None false false Pending))
unfolding admit_recorded admitted well_formed noted rows_fit has_room written
step4 = record { accepted = refl; leaves = refl }

step5 : Goes (behind 4 (at 5 2 71 72 None false false Pending)) end (behind 5 (at 5 2 71 72 None false false Ended))
unfolding end_recorded ended well_formed noted rows_fit has_room written
step5 = record { accepted = refl; leaves = refl }

step6 : Goes (behind 5 (at 5 2 71 72 None false false Ended)) pop (behind 6 (at 6 2 71 0 (Some (ticket 1 5)) false true Ended))
unfolding pop_recorded popped pop_due newest well_formed noted rows_fit has_room written
step6 = record { accepted = refl; leaves = refl }

step7 : Goes (behind 6 (at 6 2 71 0 (Some (ticket 1 5)) false true Ended)) (complete (ticket 1 5) 1 73) (behind 7 (at 6 2 71 73 (Some (ticket 1 5)) true false Ended))
unfolding complete_recorded completed complete_refusal well_formed noted rows_fit has_room written
step7 = record { accepted = refl; leaves = refl }

step8 : Goes (behind 7 (at 6 2 71 73 (Some (ticket 1 5)) true false Ended)) retry (behind 8 (at 7 2 71 73 (Some (ticket 1 6)) false false Ended))
unfolding retry_recorded retried retry_due well_formed noted rows_fit has_room written
step8 = record { accepted = refl; leaves = refl }

step9 : Goes (behind 8 (at 7 2 71 73 (Some (ticket 1 6)) false false Ended)) pop (behind 9 (at 7 2 71 0 (Some (ticket 1 6)) false true Ended))
unfolding pop_recorded popped pop_due newest well_formed noted rows_fit has_room written
step9 = record { accepted = refl; leaves = refl }

step10 : Goes (behind 9 (at 7 2 71 0 (Some (ticket 1 6)) false true Ended)) (complete (ticket 1 6) 0 0) (behind 10 (at 7 2 71 0 None false false Ended))
unfolding complete_recorded completed complete_refusal well_formed noted rows_fit has_room written
step10 = record { accepted = refl; leaves = refl }

step11 : Goes (behind 10 (at 7 2 71 0 None false false Ended)) pop (behind 11 (at 8 2 0 0 (Some (ticket 0 7)) false true Ended))
unfolding pop_recorded popped pop_due newest well_formed noted rows_fit has_room written
step11 = record { accepted = refl; leaves = refl }

step12 : Goes (behind 11 (at 8 2 0 0 (Some (ticket 0 7)) false true Ended)) cancel (behind 12 (at 8 2 0 0 (Some (ticket 0 7)) false true Closed))
unfolding cancel_recorded cancelled_by well_formed noted rows_fit has_room written
step12 = record { accepted = refl; leaves = refl }

-- ---- the calls
abbrev pub calls_made : List Call
calls_made = admit true ∷ land 71 ∷ register 72 ∷ admit true ∷ end ∷ pop ∷ complete (ticket 1 5) 1 73 ∷ retry ∷ pop ∷ complete (ticket 1 6) 0 0 ∷ pop ∷ cancel ∷ []

-- where they end
abbrev pub closed : Bench
closed = behind 12 (at 8 2 0 0 (Some (ticket 0 7)) false true Closed)

all_made : Made (behind 0 (at 5 0 0 0 None false false Idle)) calls_made closed
all_made = before step1 (before step2 (before step3 (before step4 (before step5 (before step6 (before step7 (before step8 (before step9 (before step10 (before step11 (before step12 no_call)))))))))))

-- these twelve calls, of all eight kinds, are accepted one after the other, and leave exactly these twelve rows
pub each_kind_called : Made (bench (opened_queue shown) 0 lent) calls_made closed × (rows_of closed ≡ of_each_kind)
unfolding rows
each_kind_called = (subst (λ (x : Bench). Made x calls_made closed) (sym opened_is) all_made, refl)

-- so they are a history
pub each_kind_history : History shown closed
unfolding iterator_opened
each_kind_history = made_history (opens refl) each_kind_called.0

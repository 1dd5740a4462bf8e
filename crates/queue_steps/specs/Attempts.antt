-- Pop (R41 to R47), complete (R48 to R53), retry (R54, R55); what they choose and what refuses them is decided in queue_decisions
use Rattle.std.specs.Prelude.{ℕ, ◌+◌, Bool, true, false, not, eqb, Option, Some, None, Ok, Err}
use Rattle.choice.specs.Choice.{when◌then◌else◌}
use Rattle.queue_record.specs.declared.refusal.Refusal.TheVariants.{Broken}
use Rattle.queue_record.specs.Record.{with_next, with_slot, with_selection, with_failed, with_issued}
use Rattle.queue_record.specs.WellFormed.{well_formed}
use Rattle.queue_record.specs.declared.record.Ticket.{Ticket}
use Rattle.queue_record.specs.declared.record.Queue.{Queue}
use Rattle.queue_decisions.specs.Slots.{slot_in}
use Rattle.queue_decisions.specs.Pops.{sought, number_due, fresh_of, pop_due}
use Rattle.queue_decisions.specs.Answers.{complete_refusal}
use Rattle.queue_decisions.specs.Renewals.{allowed_by, renewed_of, retry_due}
use Rattle.queue_record.specs.declared.answered.Answered.{Answered}
use Rattle.queue_decisions.specs.Types.{Due, Renewal}
use Rattle.queue_record.specs.declared.refusal.Refusal.{Refusal}
use Rattle.queue_steps.specs.Types.{Completed, Popped, Retried}

-- what stands in a token's slot; 0 is an empty slot
abbrev pub slot : Queue → ℕ → ℕ
slot q token = slot_in q.slots token

-- ---- pop
abbrev pub refused_pop : Queue → Refusal → Answered Popped
refused_pop q refusal = record { answer = Err refusal; queue = q }

abbrev pub popped_nothing : Queue → Answered Popped
popped_nothing q = record { answer = (Ok None); queue = q }

-- R47: the ticket is selected, the slot empties, issued is set
abbrev pub issued_to : Queue → Ticket → ℕ → Queue
issued_to q ticket next = with_issued (with_next (with_slot (with_selection q (Some ticket)) ticket.token 0) next) true

abbrev pub handed : Queue → Ticket → ℕ → ℕ → Answered Popped
handed q ticket number next = record { answer = Ok (Some (ticket, number)); queue = issued_to q ticket next }

-- R45: a fresh ticket carries next
abbrev pub fresh_ticket : Queue → ℕ → Ticket
fresh_ticket q token = fresh_of q.domain token q.next

-- what is due in this record, by what was found there
abbrev pub due_found : Queue → Option ℕ → Due
due_found q found = pop_due q.issued q.failed q.selection found (number_due q.selection found q.slots) q.domain q.next

-- what is due in this record
abbrev pub due_in : Queue → Due
due_in q = due_found q (sought q.selection q.slots)

-- what is due is handed out
abbrev pub popped_as : Queue → Due → Answered Popped
popped_as q (Ok None) = popped_nothing q
popped_as q (Err refusal) = refused_pop q refusal
popped_as q (Ok (Some (ticket, number, next))) = handed q ticket number next

-- R41 to R47. Order 1, 9, 5
unfoldable pub popped : Queue → Answered Popped
popped q =
    when not (well_formed q) then refused_pop q Broken else
    popped_as q (due_in q)

-- ---- complete
abbrev pub refused_complete : Queue → Refusal → ℕ → Answered Completed
refused_complete q refusal kept = record { answer = Err (refusal, kept); queue = q }

-- R50: the slot takes the kept number, issued clears
abbrev pub took_back : Queue → ℕ → ℕ → Queue
took_back q token kept = with_issued (with_slot q token kept) false

-- R51, R52: with Done no ticket is left; with Failed it stays, and is marked
abbrev pub answered : Queue → ℕ → ℕ → ℕ → Queue
answered q token outcome kept =
    when eqb outcome 0 then with_selection (took_back q token kept) None else
    with_failed (took_back q token kept) true

-- R62: settled, or refused with the kept number given
abbrev pub completed_by : Queue → Ticket → ℕ → ℕ → Option Refusal → Answered Completed
completed_by q ticket outcome kept None = record { answer = Ok tt; queue = answered q ticket.token outcome kept }
completed_by q ticket outcome kept (Some refusal) = refused_complete q refusal kept

-- what refuses the answer in this record
abbrev pub refusal_in : Queue → Ticket → ℕ → ℕ → Option Refusal
refusal_in q ticket outcome kept = complete_refusal q.issued q.selection ticket outcome kept

-- R48 to R53. Order 1, 15, 6, 7
unfoldable pub completed : Queue → Ticket → ℕ → ℕ → Answered Completed
completed q ticket outcome kept =
    when not (well_formed q) then refused_complete q Broken kept else
    completed_by q ticket outcome kept (refusal_in q ticket outcome kept)

-- an answer that is taken in, and not refused
abbrev pub is_settled_answer : Completed → Bool
is_settled_answer (Ok tt) = true
is_settled_answer (Err (n, given)) = false

-- ---- retry
abbrev pub refused_retry : Queue → Refusal → Answered Retried
refused_retry q refusal = record { answer = Err refusal; queue = q }

-- whether a retry is allowed, of a queue whose selection is s
abbrev pub retry_allowed : Queue → Option Ticket → Bool
retry_allowed q s = allowed_by q.failed q.slots q.next s

-- R55: the ticket takes next
abbrev pub renewed : Queue → Ticket → Ticket
renewed q t = renewed_of t q.next

-- R55: the renewed ticket is selected, next rises past it, failed clears
abbrev pub renewed_to : Queue → Ticket → Queue
renewed_to q t = with_failed (with_next (with_selection q (Some t)) (t.attempt + 1)) false

abbrev pub again : Queue → Ticket → Answered Retried
again q t = record { answer = Ok t; queue = renewed_to q t }

abbrev pub retried_as : Queue → Renewal → Answered Retried
retried_as q (Err refusal) = refused_retry q refusal
retried_as q (Ok t) = again q t

-- the ticket that is due again in this record
abbrev pub due_again_in : Queue → Renewal
due_again_in q = retry_due q.failed q.selection q.slots q.next

-- R54, R55. Order 1, 8, 20, 21
unfoldable pub retried : Queue → Answered Retried
retried q =
    when not (well_formed q) then refused_retry q Broken else
    retried_as q (due_again_in q)

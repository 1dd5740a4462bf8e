-- R41 to R47: what pop hands out, with its refusals in the order of R64 behind 1
use Rattle.std.specs.Prelude.{ℕ, ◌+◌, Bool, ◌||◌, List, eqb, leb, Option, Some, None, Ok, Err}
use Rattle.choice.specs.Choice.{when◌then◌else◌}
use Rattle.queue_record.specs.declared.refusal.Refusal.TheVariants.{NoAttempt, Hollow}
use Rattle.queue_record.specs.Waiting.{occupied}
use Rattle.queue_record.specs.Newest.{newest}
use Rattle.queue_record.specs.declared.record.Ticket.{Ticket}
use Rattle.queue_decisions.specs.Slots.{no_more, slot_in}
use Rattle.queue_decisions.specs.Types.{Due}

-- R43: the newest waiting token is looked for where nothing is selected: then every occupied slot waits
abbrev pub sought : Option Ticket → List ℕ → Option ℕ
sought None slots = newest (occupied 0 slots)
sought (Some t) slots = None

-- R42, R43: the number in question: in the ready ticket's slot, or else in that of the token found
abbrev pub number_due : Option Ticket → Option ℕ → List ℕ → ℕ
number_due None (Some token) slots = slot_in slots token
number_due None None slots = 0
number_due (Some t) found slots = slot_in slots t.token

-- R45: a fresh ticket carries next
abbrev pub fresh_of : ℕ → ℕ → ℕ → Ticket
fresh_of domain token next = record { domain = domain; token = token; attempt = next }

-- R45: by the number in its slot; next rises by 1. Order 9, 5
abbrev pub fresh_by : ℕ → ℕ → ℕ → ℕ → Due
fresh_by token number domain next =
    when eqb number 0 then Err Hollow else
    when leb no_more next then Err NoAttempt else
    Ok (Some (fresh_of domain token next, number, next + 1))

-- R44: Nothing where none waits
abbrev pub fresh_due : Option ℕ → ℕ → ℕ → ℕ → Due
fresh_due None number domain next = Ok None
fresh_due (Some token) number domain next = fresh_by token number domain next

-- R46: the ready ticket keeps its attempt
abbrev pub ready_by : Ticket → ℕ → ℕ → Due
ready_by ticket number next =
    when eqb number 0 then Err Hollow else
    Ok (Some (ticket, number, next))

-- R42, R43: the ready ticket, or else the newest waiting token
abbrev pub due_by : Option ℕ → ℕ → ℕ → ℕ → Option Ticket → Due
due_by found number domain next None = fresh_due found number domain next
due_by found number domain next (Some ticket) = ready_by ticket number next

-- R41: a mark stands: something is out, or has failed. Both at once, as either branch of the code asks them
abbrev pub is_marked : Bool → Bool → Bool
is_marked issued failed = issued || failed

-- Nothing where that is so
abbrev pub unless : Bool → Due → Due
unless rests due = when rests then Ok None else due

-- R41: Nothing while a mark stands
unfoldable pub pop_due : Bool → Bool → Option Ticket → Option ℕ → ℕ → ℕ → ℕ → Due
pop_due issued failed selection found number domain next =
    when issued then Ok None else
    when failed then Ok None else
    due_by found number domain next selection

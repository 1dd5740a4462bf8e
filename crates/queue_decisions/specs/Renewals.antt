-- What refuses a retry (R54, R63), and the ticket renewed (R55)
use Rattle.std.specs.Prelude.{ℕ, Bool, false, not, ◌&&◌, List, eqb, leb, ltb, Option, Some, None, Ok, Err}
use Rattle.choice.specs.Choice.{when◌then◌else◌}
use Rattle.queue_record.specs.declared.refusal.Refusal.{Refusal}
use Rattle.queue_record.specs.declared.refusal.Refusal.TheVariants.{NoRetry, NothingKept, NoFurtherAttempt}
use Rattle.queue_record.specs.declared.record.Ticket.{Ticket}
use Rattle.queue_decisions.specs.Slots.{no_more, slot_in}
use Rattle.queue_decisions.specs.Types.{Renewal}

-- R54: failed stands, something is kept, and an attempt is left
abbrev pub may_retry : Bool → ℕ → ℕ → Bool
may_retry failed number next = failed && (not (eqb number 0) && ltb next no_more)

-- the same, of what is selected
abbrev pub allowed_by : Bool → List ℕ → ℕ → Option Ticket → Bool
allowed_by failed slots next None = false
allowed_by failed slots next (Some t) = may_retry failed (slot_in slots t.token) next

-- retry: 8 where nothing has failed, 20 where its slot keeps nothing, 21 where no attempt is left
abbrev pub retry_refusal : Bool → ℕ → ℕ → Option Refusal
retry_refusal failed number next =
    when not failed then Some NoRetry else
    when eqb number 0 then Some NothingKept else
    when leb no_more next then Some NoFurtherAttempt else
    None

-- R55: the ticket takes next
abbrev pub renewed_of : Ticket → ℕ → Ticket
renewed_of t next = record { domain = t.domain; token = t.token; attempt = next }

-- where nothing refuses it, the ticket
abbrev pub renewed_unless : Option Refusal → Ticket → Renewal
renewed_unless None t = Ok t
renewed_unless (Some refusal) t = Err refusal

-- of what is selected; where nothing is, nothing has failed
abbrev pub due_again : Bool → List ℕ → ℕ → Option Ticket → Renewal
due_again failed slots next None = Err NoRetry
due_again failed slots next (Some t) = renewed_unless (retry_refusal failed (slot_in slots t.token) next) (renewed_of t next)

unfoldable pub retry_due : Bool → Option Ticket → List ℕ → ℕ → Renewal
retry_due failed selection slots next = due_again failed slots next selection

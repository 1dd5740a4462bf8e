-- R65: the yes-or-no calls and domain: 1 alone refuses them
use Rattle.std.specs.Prelude.{ℕ, Bool, true, false, not, ◌&&◌, List, [], ◌∷◌, take, Option, Some, None, Ok, Err}
use Rattle.choice.specs.Choice.{when◌then◌else◌}
use Rattle.stage.specs.Phases.{is_pending, is_settled, is_cancelled}
use Rattle.stage.specs.Bindings.{same_set}
use Rattle.stage.specs.declared.phases.Phase.{Phase}
use Rattle.queue_record.specs.declared.refusal.Refusal.TheVariants.{Broken}
use Rattle.queue_record.specs.WellFormed.{well_formed}
use Rattle.queue_record.specs.Waiting.{waiting}
use Rattle.queue_record.specs.declared.record.Queue.{Queue}
use Rattle.queue_steps.specs.Attempts.{retry_allowed}
use Rattle.queue_record.specs.declared.record.Ticket.{Ticket}
use Rattle.queue_questions.specs.Types.{DomainTold, Told}

abbrev pub yes_or_no : Bool → Told
yes_or_no answer = Ok answer

-- a question put to a record: 1 if it is not well formed, else the answer
abbrev pub asked : Queue → Bool → Told
asked q answer = when not (well_formed q) then Err Broken else yes_or_no answer

-- R57: is_empty: nothing waiting and nothing selected
abbrev pub nothing_left : Option Ticket → List ℕ → Bool
nothing_left None [] = true
nothing_left None (k ∷ ks) = false
nothing_left (Some t) ks = false

unfoldable pub is_empty_told : Queue → Told
is_empty_told q = asked q (nothing_left q.selection (waiting q))

unfoldable pub is_issued_told : Queue → Told
is_issued_told q = asked q q.issued

unfoldable pub is_pending_told : Queue → Told
is_pending_told q = asked q (is_pending q.phase)

unfoldable pub is_settled_told : Queue → Told
is_settled_told q = asked q (is_settled q.phase)

unfoldable pub is_cancelled_told : Queue → Told
is_cancelled_told q = asked q (is_cancelled q.phase)

unfoldable pub has_failed_told : Queue → Told
has_failed_told q = asked q q.failed

-- R58: can_retry: whether retry is allowed
unfoldable pub can_retry_told : Queue → Told
can_retry_told q = asked q (retry_allowed q q.selection)

abbrev pub committed : Queue → List ℕ
committed q = take q.bound q.bindings

-- R34: the target has the members of the bindings
abbrev pub matches : Queue → List ℕ → Bool
matches q target = same_set target (committed q)

-- R56: no ticket, a stage that neither runs nor was cancelled, and a target that matches
abbrev pub finishable : Option Ticket → Phase → List ℕ → List ℕ → Bool
finishable None phase target bindings = not (is_pending phase) && (not (is_cancelled phase) && same_set target bindings)
finishable (Some t) phase target bindings = false

unfoldable pub can_finish_told : Queue → List ℕ → Told
can_finish_told q target = asked q (finishable q.selection q.phase target (committed q))

unfoldable pub domain_told : Queue → DomainTold
domain_told q = when not (well_formed q) then Err Broken else Ok q.domain

-- R59: what becomes of each part of a record, in an opening and in each call; together the laws name every part for every call
use Rattle.std.specs.Prelude.{ℕ, ◌+◌, ◌≡◌, false, [], ◌∷◌, ◌++◌, eqb, length, replicate, set, take, Some, None, Ok}
use Rattle.stage.specs.Phases.{is_pending}
use Rattle.stage.specs.declared.phases.Phase.{Phase}
use Rattle.stage.specs.declared.phases.Phase.TheVariants.{Idle, Ended}
use Rattle.queue_record.specs.Openings.{Opening, binding_places, kept_bindings}
use Rattle.queue_record.specs.declared.record.Kind.{Kind}
use Rattle.queue_record.specs.declared.record.Kind.TheVariants.{Scope, Iterator}
use Rattle.queue_record.specs.Waiting.{waiting}
use Rattle.queue_record.specs.declared.record.Ticket.{Ticket}
use Rattle.queue_record.specs.declared.record.Queue.{Queue}
use Rattle.queue_record.specs.declared.answered.Answered.{Answered}
use Rattle.queue_births.specs.Types.{Registered}
use Rattle.queue_steps.specs.Types.{Popped}

-- ---- openings, and what they give for good
-- R23: no token, nothing out, nothing selected, nothing waiting, and the stage not pending
abbrev pub Fresh : Queue → Type 0
Fresh q = (q.count ≡ 0) × (q.issued ≡ false) × (q.selection ≡ None) × (waiting q ≡ []) × (is_pending q.phase ≡ false)

-- the phase that a kind starts in
abbrev pub start_phase : Kind → Phase
start_phase Scope = Ended
start_phase Iterator = Idle

-- every part of what an opening leaves that was not refused
pub record OpenedParts (o : Opening) (q : Queue) : Type 0 where
  pub kind : q.kind ≡ o.heading.kind
  pub domain : q.domain ≡ o.heading.domain
  pub next : q.next ≡ o.heading.first
  pub slots : q.slots ≡ replicate 64 0
  pub count : q.count ≡ 0
  pub selection : q.selection ≡ None
  pub failed : q.failed ≡ false
  pub issued : q.issued ≡ false
  pub phase : q.phase ≡ start_phase o.heading.kind
  pub bindings : q.bindings ≡ binding_places (kept_bindings o.heading.kind o.bindings)
  pub bound : q.bound ≡ length (kept_bindings o.heading.kind o.bindings)

-- kind, domain and bindings are those of the opening
abbrev pub SameOpening : Queue → Queue → Type 0
SameOpening q p = (p.kind ≡ q.kind) × (p.domain ≡ q.domain) × (p.bindings ≡ q.bindings) × (p.bound ≡ q.bound)

-- ---- register and land of a number
-- the selected ticket, both marks and next stay
abbrev pub LeavesSelected : Queue → Queue → Type 0
LeavesSelected q p = (p.selection ≡ q.selection) × (p.failed ≡ q.failed) × (p.issued ≡ q.issued) × (p.next ≡ q.next)

-- R38: the token is the number of slots in use, these get the number behind them, and no other place is stored to
abbrev pub Pushes : Queue → ℕ → Answered Registered → Type 0
Pushes q n r = (token : ℕ) → r.answer ≡ Ok token → (token ≡ q.count) × (take r.queue.count r.queue.slots ≡ take q.count q.slots ++ (n ∷ [])) × (r.queue.count ≡ q.count + 1) × (r.queue.slots ≡ set q.slots q.count n)

-- R11: the token waits behind the others
abbrev pub Appends : Queue → Answered Registered → Type 0
Appends q r = (token : ℕ) → r.answer ≡ Ok token → waiting r.queue ≡ waiting q ++ (token ∷ [])

-- ---- pop
-- R43: the token of a fresh ticket was the last of the waiting ones, and waits no more
abbrev pub Drops : Queue → Answered Popped → Type 0
Drops q r = (t : Ticket) (number : ℕ) → r.answer ≡ Ok (Some (t, number)) → q.selection ≡ None → waiting q ≡ waiting r.queue ++ (t.token ∷ [])

-- R45, R46: next rises by 1 for a fresh ticket, and stays for a ready one
abbrev pub TakesNext : Queue → Queue → Type 0
TakesNext q p = (q.selection ≡ None → p.next ≡ q.next + 1) × ((s : Ticket) → q.selection ≡ Some s → p.next ≡ q.next)

-- ---- complete of a ticket, by its outcome and kept number
-- R50 to R52: not issued, the slot with the kept number, failed exactly if Failed, selected exactly then
abbrev pub TakesBack : Queue → Ticket → ℕ → ℕ → Queue → Type 0
TakesBack q t outcome kept p = (p.issued ≡ false) × (p.slots ≡ set q.slots t.token kept) × (p.count ≡ q.count) × (p.failed ≡ eqb outcome 1) × ((outcome ≡ 1 → p.selection ≡ Some t) × (outcome ≡ 0 → p.selection ≡ None))

-- ---- retry that gives the ticket t
-- R55: it is selected, neither mark stands, next rises by 1; slots, count and phase stay
abbrev pub RenewsTo : Queue → Ticket → Queue → Type 0
RenewsTo q t p = (p.selection ≡ Some t) × (p.failed ≡ false) × (p.issued ≡ false) × (p.next ≡ q.next + 1) × (p.slots ≡ q.slots) × (p.count ≡ q.count) × (p.phase ≡ q.phase)

-- ---- admit, end and cancel
-- all but the phase stays
abbrev pub StaysButPhase : Queue → Queue → Type 0
StaysButPhase q p = (p.selection ≡ q.selection) × (p.slots ≡ q.slots) × (p.count ≡ q.count) × (p.issued ≡ q.issued) × (p.failed ≡ q.failed) × (p.next ≡ q.next)

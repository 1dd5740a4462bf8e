-- R64: what each call says: its refusals in their order, each with when it is given, and its values
use Rattle.std.specs.Prelude.{ℕ, ◌≡◌, Bool, true, false, not, ◌&&◌, List, [], ◌∷◌, eqb, leb, ltb, length, Option, Some, None}
use Rattle.choice.specs.Choice.{when◌then◌else◌, bit}
use Rattle.stage.specs.Phases.{is_pending}
use Rattle.queue_record.specs.Refusals.{done, refusal_number}
use Rattle.queue_record.specs.declared.refusal.Refusal.{Refusal}
use Rattle.queue_record.specs.declared.refusal.Refusal.TheVariants.{Broken, BadNumber, NoSlot, NotPending, NoAttempt, NotOut, KeptOnDone, NoRetry, Hollow, BadOutcome, TooManyBindings, NothingKept, NoFurtherAttempt}
use Rattle.queue_record.specs.Openings.{Opening, kept_bindings}
use Rattle.queue_record.specs.WellFormed.{well_formed}
use Rattle.queue_record.specs.Waiting.{waiting}
use Rattle.queue_record.specs.Newest.{newest, is_there}
use Rattle.queue_record.specs.declared.record.Ticket.{Ticket}
use Rattle.queue_record.specs.declared.record.Queue.{Queue}
use Rattle.queue_decisions.specs.Slots.{no_more}
use Rattle.queue_decisions.specs.Answers.{is_out, keeps_on_done}
use Rattle.queue_steps.specs.Attempts.{slot}
use Rattle.cleanup_queue.specs.Answers.{Said, says, told_says}
use Rattle.queue_questions.specs.Types.{Told}

-- a refusal, and whether what it is given for is the case
pub record Ground : Type 0 where
  pub refusal : Refusal
  pub case : Bool

abbrev pub due : Refusal → Bool → Ground
due refusal b = record { refusal = refusal; case = b }

-- the first that is due; None where none is
abbrev pub first_refusal : List Ground → Option Refusal
first_refusal [] = None
first_refusal (d ∷ ds) = when d.case then Some d.refusal else first_refusal ds

-- and its number; 0, done, where none is
abbrev pub first_due : List Ground → ℕ
first_due [] = done
first_due (d ∷ ds) = when d.case then refusal_number d.refusal else first_due ds

-- what a call says: the first that is due with the values given back; 0, done, with the call's own values where none is
abbrev pub first_said : List Ground → List ℕ → List ℕ → Said
first_said [] back own = says done own
first_said (d ∷ ds) back own = when d.case then says (refusal_number d.refusal) back else first_said ds back own

-- where an answer's number is not 0, its values are those given back, and the record with it is q
abbrev pub RefusedAs : Queue → List ℕ → Said → Queue → Type 0
RefusedAs q back s p = (s.number ≡ 0 → ⊥) → (s.values ≡ back) × (p ≡ q)

-- R25: an opening, 14, of the bindings that its kind keeps: a scope keeps none
abbrev pub opening_order : Opening → List Ground
opening_order o = due TooManyBindings (ltb 16 (length (kept_bindings o.heading.kind o.bindings))) ∷ []

-- register: 1, 2, 3
abbrev pub register_order : Queue → ℕ → List Ground
register_order q number =
    due Broken (not (well_formed q)) ∷
    due BadNumber (eqb number 0) ∷
    due NoSlot (leb 64 q.count) ∷
    []

-- land: 1, 2, 4, 3
abbrev pub land_order : Queue → ℕ → List Ground
land_order q number =
    due Broken (not (well_formed q)) ∷
    due BadNumber (eqb number 0) ∷
    due NotPending (not (is_pending q.phase)) ∷
    due NoSlot (leb 64 q.count) ∷
    []

-- R43: the token that pop would make a fresh ticket for; none while something is issued, failed or selected
abbrev pub fresh_token : Bool → Bool → Option Ticket → List ℕ → Option ℕ
fresh_token true failed s ks = None
fresh_token false true s ks = None
fresh_token false false (Some t) ks = None
fresh_token false false None ks = newest ks

-- R42: the token that pop chooses: the ready one, or that of the fresh ticket
abbrev pub chosen_token : Bool → Bool → Option Ticket → List ℕ → Option ℕ
chosen_token true failed s ks = None
chosen_token false true s ks = None
chosen_token false false (Some t) ks = Some t.token
chosen_token false false None ks = newest ks

abbrev pub is_hollow : Queue → Option ℕ → Bool
is_hollow q None = false
is_hollow q (Some k) = eqb (slot q k) 0

-- pop: 1, 9, 5
abbrev pub pop_order : Queue → List Ground
pop_order q =
    due Broken (not (well_formed q)) ∷
    due Hollow (is_hollow q (chosen_token q.issued q.failed q.selection (waiting q))) ∷
    due NoAttempt (is_there (fresh_token q.issued q.failed q.selection (waiting q)) && leb no_more q.next) ∷
    []

-- R45: what pop hands out, as values: the fresh ticket for the token found, with the number in its slot
abbrev pub fresh_values : Queue → Option ℕ → List ℕ
fresh_values q None = []
fresh_values q (Some k) = q.domain ∷ k ∷ q.next ∷ slot q k ∷ []

-- R41, R46: the ready ticket as it is, or a fresh one; nothing while something is issued or failed
abbrev pub work_values : Queue → Bool → Bool → Option Ticket → List ℕ
work_values q true failed s = []
work_values q false true s = []
work_values q false false (Some t) = t.domain ∷ t.token ∷ t.attempt ∷ slot q t.token ∷ []
work_values q false false None = fresh_values q (newest (waiting q))

-- complete: 1, 15, 6, 7
abbrev pub complete_order : Queue → Ticket → ℕ → ℕ → List Ground
complete_order q t outcome kept =
    due Broken (not (well_formed q)) ∷
    due BadOutcome (ltb 1 outcome) ∷
    due NotOut (not (is_out q.issued q.selection t)) ∷
    due KeptOnDone (keeps_on_done outcome kept) ∷
    []

-- what the selected ticket's slot holds
abbrev pub kept_in : Queue → Option Ticket → ℕ
kept_in q None = 0
kept_in q (Some t) = slot q t.token

-- retry: 1, 8, 20, 21
abbrev pub retry_order : Queue → List Ground
retry_order q =
    due Broken (not (well_formed q)) ∷
    due NoRetry (not q.failed) ∷
    due NothingKept (eqb (kept_in q q.selection) 0) ∷
    due NoFurtherAttempt (leb no_more q.next) ∷
    []

-- R55: the renewed ticket, as values
abbrev pub renewed_values : Queue → Option Ticket → List ℕ
renewed_values q None = []
renewed_values q (Some t) = t.domain ∷ t.token ∷ q.next ∷ []

-- R65: 1 alone
abbrev pub broken_only : Queue → List Ground
broken_only q = due Broken (not (well_formed q)) ∷ []

-- an answer says 1 where the record is not well formed, and 0 otherwise
abbrev pub OnlyBroken : Queue → Told → Type 0
OnlyBroken q r = (told_says r).number ≡ first_due (broken_only q)

-- and where it says 0, it says whether b
abbrev pub Tells : Queue → Bool → Told → Type 0
Tells q b r = told_says r ≡ first_said (broken_only q) [] (bit b ∷ [])

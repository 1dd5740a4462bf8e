-- Each call by its cases: refused, with the record as it was, or done under what its tests showed
use Prim.Native.Nat.{ℕ, ◌+◌, ◌<◌, ◌≤◌}
use mathlib.Core.Path.{◌≡◌, refl, sym, ap, ◌∙◌}
use mathlib.Core.Bool.{true, false, not}
use native.Mathlib.Omega.{arith}
use borrow.Author.Tests.{eqb-true, eqb-false, leb-false, ltb-false, not-false}
use lib.Dec.{eqb, leb, ltb}
use Rattle.choice.proofs.Ways.{if_by}
use Rattle.stage.specs.Phases.{is_pending}
use Rattle.queue_record.specs.declared.refusal.Refusal.{Refusal}
use Rattle.queue_record.specs.declared.refusal.Refusal.TheVariants.{Broken, BadNumber, NoSlot, NotPending, NoAttempt, NotOut, KeptOnDone, Hollow, BadOutcome}
use Rattle.queue_record.specs.WellFormed.{well_formed}
use Rattle.queue_record.specs.Waiting.{occupied, others, waiting}
use Rattle.queue_record.proofs.Fit.{ready_occupied}
use Rattle.queue_record.proofs.Last.{newest_full}
use Rattle.queue_record.specs.Newest.{newest}
use Rattle.queue_record.specs.declared.record.Ticket.{Ticket}
use Rattle.queue_record.specs.declared.record.Queue.{Queue}
use Rattle.queue_births.specs.Births.{refused_birth, grown, born, born_by, registered, landed_to, landed}
use Rattle.queue_record.specs.Refusals.{refusal_number}
use Rattle.queue_record.proofs.Above.{refusal_above}
use Rattle.queue_decisions.specs.Births.{register_refusal, land_refusal}
use Rattle.queue_decisions.specs.Pops.{sought, number_due, fresh_due, due_by, pop_due}
use Rattle.queue_decisions.specs.Renewals.{retry_due}
use Rattle.queue_decisions.proofs.RenewalLaws.{due_cases}
use Rattle.queue_decisions.specs.Slots.{no_more}
use Rattle.queue_decisions.specs.Answers.{is_out, keeps_on_done, complete_refusal}
use Rattle.queue_steps.specs.Attempts.{slot, refused_pop, popped_nothing, handed, fresh_ticket, popped_as, popped, refused_complete, answered, completed_by}
use Rattle.queue_steps.specs.Attempts.{completed, refused_retry, retry_allowed, renewed, again, retried_as, retried}
use Rattle.queue_decisions.proofs.AnswerLaws.{out_issued, out_selected}
use Rattle.std.specs.Prelude.{Option, Some, None, Result, Ok, Err}
use Rattle.queue_record.specs.declared.answered.Answered.{Answered}
use Rattle.queue_births.specs.Types.{Registered}
use Rattle.queue_decisions.specs.Types.{Due, Renewal}
use Rattle.queue_steps.specs.Types.{Completed, Popped, Retried}

-- ---- register and land
module _ (P : Answered Registered → Type 0) (q : Queue) (number : ℕ) where
  abbrev pub Unborn : Type 0
  Unborn = (r : Refusal) → P (refused_birth q r number)

  abbrev pub Registers : Type 0
  Registers = well_formed q ≡ true → (number ≡ 0 → ⊥) → q.count < 64 → P (born q (grown q number))

  abbrev pub Lands : Type 0
  Lands = well_formed q ≡ true → (number ≡ 0 → ⊥) → is_pending q.phase ≡ true → q.count < 64 → P (born q (landed_to q number))

  -- of what is decided, by what refuses it
  abbrev Decided : Queue → Option Refusal → Type 0
  Decided after r = P (born_by q number after r)

  pub register_by : Unborn → Registers → P (registered q number)
  unfolding registered register_refusal
  register_by refused taken =
      let D : Option Refusal → Type 0 = Decided (grown q number) in
      if_by P (not (well_formed q)) _ _ (λ _. refused Broken) (λ w.
      if_by D (eqb number 0) _ _ (λ _. refused BadNumber) (λ z.
      if_by D (leb 64 q.count) _ _ (λ _. refused NoSlot) (λ l.
      taken (not-false _ w) (eqb-false _ _ z) (leb-false _ _ l))))

  pub land_by : Unborn → Lands → P (landed q number)
  unfolding landed land_refusal
  land_by refused taken =
      let D : Option Refusal → Type 0 = Decided (landed_to q number) in
      if_by P (not (well_formed q)) _ _ (λ _. refused Broken) (λ w.
      if_by D (eqb number 0) _ _ (λ _. refused BadNumber) (λ z.
      if_by D (not (is_pending q.phase)) _ _ (λ _. refused NotPending) (λ p.
      if_by D (leb 64 q.count) _ _ (λ _. refused NoSlot) (λ l.
      taken (not-false _ w) (eqb-false _ _ z) (not-false _ p) (leb-false _ _ l)))))

-- ---- pop
-- what is known where pop goes past its first tests
pub record Popping (q : Queue) : Type 0 where
  pub sound : well_formed q ≡ true
  pub issued : q.issued ≡ false
  pub failed : q.failed ≡ false

-- where nothing is selected, all that is occupied waits
pub all_occupied : (q : Queue) → q.selection ≡ None → waiting q ≡ occupied 0 q.slots
all_occupied q e = ap (λ (s : Option Ticket). others s (occupied 0 q.slots)) e

-- the chosen slot is never empty
pub chosen_full : (q : Queue) → q.selection ≡ None → (token : ℕ) → newest (waiting q) ≡ Some token → slot q token ≡ 0 → ⊥
chosen_full q e token n = newest_full q.slots token (ap newest (sym (all_occupied q e)) ∙ n)

abbrev pub FreshCase : ((Answered Popped) → Type 0) → Queue → Type 0
FreshCase P q =
    Popping q → q.selection ≡ None → (token : ℕ) → newest (waiting q) ≡ Some token →
    (slot q token ≡ 0 → ⊥) → q.next < no_more → P (handed q (fresh_ticket q token) (slot q token) (q.next + 1))

abbrev pub ReadyCase : ((Answered Popped) → Type 0) → Queue → Type 0
ReadyCase P q = Popping q → (t : Ticket) → q.selection ≡ Some t → (slot q t.token ≡ 0 → ⊥) → P (handed q t (slot q t.token) q.next)

-- what is due where no mark stands: by what was found where nothing is selected, and by what is selected
abbrev pub fresh_in : Queue → Option ℕ → Due
fresh_in q found = fresh_due found (number_due None found q.slots) q.domain q.next

abbrev pub unmarked_in : Queue → Option Ticket → Due
unmarked_in q s = due_by (sought s q.slots) (number_due s (sought s q.slots) q.slots) q.domain q.next s

-- pop, whose refusals are never 9
module _ (P : Answered Popped → Type 0) (q : Queue) (refused : (r : Refusal) → (r ≡ Hollow → ⊥) → P (refused_pop q r))
    (idle : P (popped_nothing q)) (fresh : FreshCase P q) (ready : ReadyCase P q) where
  -- of what is due
  abbrev D : Due → Type 0
  D d = P (popped_as q d)

  by_found : Popping q → q.selection ≡ None → (f : Option ℕ) → newest (waiting q) ≡ f → D (fresh_in q f)
  by_found p e None n = idle
  by_found p e (Some token) n =
      if_by D (eqb (slot q token) 0) _ _ (λ z. absurd (chosen_full q e token n (eqb-true _ _ z))) (λ z.
      if_by D (leb no_more q.next) _ _ (λ _. refused NoAttempt (λ h. let z : ◌≡◌ {A = ℕ} 0 1 = cc in omega arith)) (λ l.
      fresh p e token n (eqb-false _ _ z) (leb-false _ _ l)))

  by_selection : Popping q → (s : Option Ticket) → q.selection ≡ s → D (unmarked_in q s)
  by_selection p None e = by_found p e (newest (occupied 0 q.slots)) (ap newest (all_occupied q e))
  by_selection p (Some t) e =
      if_by D (eqb (slot q t.token) 0) _ _ (λ z. absurd (ready_occupied q t p.sound e p.issued p.failed (eqb-true _ _ z))) (λ z. ready p t e (eqb-false _ _ z))

  pub pop_by : P (popped q)
  unfolding popped pop_due
  pop_by =
      if_by P (not (well_formed q)) _ _ (λ _. refused Broken (λ h. let z : ◌≡◌ {A = ℕ} 0 1 = cc in omega arith)) (λ w.
      if_by D q.issued _ _ (λ _. idle) (λ i.
      if_by D q.failed _ _ (λ _. idle) (λ f.
      by_selection (record { sound = not-false _ w; issued = i; failed = f }) q.selection refl)))

-- work is one ticket with one number
pub work_parts : (s t : Ticket) (m n : ℕ) → ◌≡◌ {A = Popped} (Ok (Some (s, m))) (Ok (Some (t, n))) → (s ≡ t) × (m ≡ n)
work_parts s t m n e = let p : ◌≡◌ {A = Ticket × ℕ} (s, m) (t, n) = cc in (ap (λ x. x.0) p, ap (λ x. x.1) p)

-- and a refusal of register or land, as one of complete, returns one number
pub given_back : {A : Type 0} {r s : Refusal} {m n : ℕ} → ◌≡◌ {A = Result A (Refusal × ℕ)} (Err (r, m)) (Err (s, n)) → m ≡ n
given_back {r} {s} {m} {n} e = let p : ◌≡◌ {A = Refusal × ℕ} (r, m) (s, n) = cc in ap (λ x. x.1) p

-- ---- complete
abbrev pub settled_answer : Queue → Answered Completed
settled_answer q = record { answer = (Ok tt); queue = q }

-- what is known of the ticket that is out
pub record Outside (q : Queue) (t : Ticket) : Type 0 where
  pub sound : well_formed q ≡ true
  pub issued : q.issued ≡ true
  pub selected : q.selection ≡ Some t

module _ (P : Answered Completed → Type 0) (q : Queue) (t : Ticket) (outcome kept : ℕ) where
  abbrev pub Settles : Type 0
  Settles = Outside q t → outcome ≤ 1 → keeps_on_done outcome kept ≡ false → P (settled_answer (answered q t.token outcome kept))

  pub complete_by : ((r : Refusal) → P (refused_complete q r kept)) → Settles → P (completed q t outcome kept)
  unfolding completed complete_refusal
  complete_by refused taken =
      let D : Option Refusal → Type 0 = λ r. P (completed_by q t outcome kept r) in
      if_by P (not (well_formed q)) _ _ (λ _. refused Broken) (λ w.
      if_by D (ltb 1 outcome) _ _ (λ _. refused BadOutcome) (λ o.
      if_by D (not (is_out q.issued q.selection t)) _ _ (λ _. refused NotOut) (λ u.
      if_by D (keeps_on_done outcome kept) _ _ (λ _. refused KeptOnDone) (λ k.
      taken (record {
        sound = not-false _ w;
        issued = out_issued q.issued q.selection t (not-false _ u);
        selected = out_selected q.issued q.selection t (not-false _ u);
      }) (ltb-false _ _ o) k))))

-- ---- retry
abbrev pub AgainCase : ((Answered Retried) → Type 0) → Queue → Type 0
AgainCase P q = well_formed q ≡ true → (t : Ticket) → q.selection ≡ Some t → retry_allowed q (Some t) ≡ true → P (again q (renewed q t))

module _ (P : Answered Retried → Type 0) (q : Queue) (refused : (r : Refusal) → P (refused_retry q r)) (taken : AgainCase P q) where
  abbrev Renews : Renewal → Type 0
  Renews r = P (retried_as q r)

  pub retry_by : P (retried q)
  unfolding retried retry_due
  retry_by =
      if_by P (not (well_formed q)) _ _ (λ _. refused Broken)
      (λ w. due_cases q.failed q.slots q.next Renews q.selection refused (taken (not-false _ w)))

-- the same where what a refusal owes may lean on its number, which is never 0
pub retry_cases : (P : Answered Retried → Type 0) (q : Queue) → ((r : Refusal) → (refusal_number r ≡ 0 → ⊥) → P (refused_retry q r)) → AgainCase P q → P (retried q)
retry_cases P q refused taken = retry_by P q (λ r. refused r (refusal_above r)) taken

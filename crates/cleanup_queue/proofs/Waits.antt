-- The waiting tokens after each call, as a list and in order
use Prim.Native.Nat.{ℕ, ◌+◌, ◌<◌}
use mathlib.Core.Path.{◌≡◌, refl, sym, ap, ◌∙◌}
use mathlib.Core.Bool.{Bool, true, false, not}
use mathlib.Core.List.{List, [], ◌∷◌, ◌++◌}
use native.Mathlib.Omega.{arith}
use borrow.Author.Tests.{eqb-true, not-false}
use lib.Dec.{eqb}
use lib.ListN.{length, set}
use Rattle.choice.proofs.Ways.{if_by, pass}
use Rattle.queue_record.specs.declared.refusal.Refusal.{Refusal}
use Rattle.queue_record.specs.Record.{Sized, with_selection, with_failed}
use Rattle.queue_record.specs.WellFormed.{ticket_fits, well_formed}
use Rattle.queue_record.specs.Waiting.{occupied, without, others, waiting}
use Rattle.queue_record.specs.Newest.{newest}
use Rattle.queue_record.specs.declared.record.Ticket.{Ticket}
use Rattle.queue_record.specs.declared.record.Queue.{Queue}
use Rattle.queue_record.proofs.Fit.{fit, ticket_born}
use Rattle.queue_record.proofs.Waiting.{without_keep, without_append, emptied_slots, stored_slots, appended_slots}
use Rattle.queue_record.proofs.Last.{newest_last}
use Rattle.queue_births.specs.Births.{grown, registered, landed}
use Rattle.queue_decisions.specs.Answers.{keeps_on_done}
use Rattle.queue_steps.specs.Attempts.{slot, issued_to, fresh_ticket, popped, took_back, completed, retried}
use Rattle.queue_stages.specs.Stages.{admitted, ended, cancelled_by}
use Rattle.cleanup_queue.specs.Promises.{hands_out}
use Rattle.cleanup_queue.specs.Parts.{Appends, Drops}
use Rattle.cleanup_queue.proofs.ByCase.{register_by, land_by, pop_by, work_parts, Outside, complete_by, retry_by}
use Rattle.std.specs.Prelude.{Option, Some, None, Ok, Err}
use Rattle.queue_record.specs.declared.answered.Answered.{Answered}
use Rattle.queue_births.specs.Types.{Registered}
use Rattle.queue_questions.specs.Types.{Told}
use Rattle.queue_stages.specs.Types.{Cancelled}
use Rattle.queue_steps.specs.Types.{Completed, Popped, Retried}

-- ---- register and land append one
module _ (q : Queue) (n : ℕ) (s : Sized q) where
  -- the new token is not the selected one
  new_apart : (sel : Option Ticket) (ks : List ℕ) → ticket_fits q.domain q.count q.next sel ≡ true → others sel (ks ++ (q.count ∷ [])) ≡ others sel ks ++ (q.count ∷ [])
  new_apart None ks h = refl
  new_apart (Some t) ks h =
      let b : t.token < q.count = ticket_born q.domain q.count q.next t h in
      without_append t.token ks (q.count ∷ []) ∙ ap (λ (l : List ℕ). without t.token ks ++ l) (without_keep t.token q.count [] (λ e. omega arith))

  grown_waits : well_formed q ≡ true → (n ≡ 0 → ⊥) → q.count < 64 → waiting (grown q n) ≡ waiting q ++ (q.count ∷ [])
  grown_waits h z k =
      let l : length q.slots ≡ 64 = s.slots in
      ap (others q.selection) (appended_slots q.slots q.count n (fit q h).slots (omega arith) z) ∙ new_apart q.selection (occupied 0 q.slots) (fit q h).ticket

  refused_apart : {A : Type 0} (m : Refusal) (token : ℕ) → ◌≡◌ {A = Registered} (Err (m, n)) (Ok token) → A
  refused_apart m token e = let z : ◌≡◌ {A = ℕ} 0 1 = cc in absurd (omega arith)

  token_is : (token : ℕ) → ◌≡◌ {A = Registered} (Ok q.count) (Ok token) → q.count ≡ token
  token_is token e = cc

  pub register_appends : Appends q (registered q n)
  register_appends = register_by (Appends q) q n (λ m token e. refused_apart m token e) (λ w z k token e. grown_waits w z k ∙ ap (λ (t : ℕ). waiting q ++ (t ∷ [])) (token_is token e))

  pub land_appends : Appends q (landed q n)
  land_appends = land_by (Appends q) q n (λ m token e. refused_apart m token e) (λ w z p k token e. grown_waits w z k ∙ ap (λ (t : ℕ). waiting q ++ (t ∷ [])) (token_is token e))

-- ---- a fresh pop drops the last, a ready one nothing
module _ (q : Queue) where
  fresh_waits : (token : ℕ) (next : ℕ) → q.selection ≡ None → newest (waiting q) ≡ Some token → waiting q ≡ waiting (issued_to q (fresh_ticket q token) next) ++ (token ∷ [])
  fresh_waits token next e n =
      let all : waiting q ≡ occupied 0 q.slots = ap (λ (s : Option Ticket). others s (occupied 0 q.slots)) e in
      let rest : without token (occupied 0 (set q.slots token 0)) ≡ without token (occupied 0 q.slots) = stored_slots q.slots token 0 in
      all ∙ (newest_last q.slots token (ap newest (sym all) ∙ n) ∙ ap (λ (l : List ℕ). l ++ (token ∷ [])) (sym rest))

  ready_waits : (t : Ticket) (next : ℕ) → q.selection ≡ Some t → waiting (issued_to q t next) ≡ waiting q
  ready_waits t next e = stored_slots q.slots t.token 0 ∙ sym (ap (λ (s : Option Ticket). others s (occupied 0 q.slots)) e)

  pub fresh_pop_drops : Drops q (popped q)
  fresh_pop_drops =
      pop_by (Drops q) q
      (λ m _ t number e f. let z : ◌≡◌ {A = ℕ} 0 1 = cc in absurd (omega arith))
      (λ t number e f. let z : ◌≡◌ {A = ℕ} 0 1 = cc in absurd (omega arith))
      (λ p e token n full room t number w f. fresh_waits token (q.next + 1) e n
      ∙ ap (λ (k : ℕ). waiting (issued_to q (fresh_ticket q token) (q.next + 1)) ++ (k ∷ []))
      (ap (λ (x : Ticket). x.token) (work_parts (fresh_ticket q token) t (slot q token) number w).0))
      (λ p s e full t number w f. let z : ◌≡◌ {A = ℕ} 0 1 = cc in absurd (omega arith))

  pub ready_pop_keeps : (t : Ticket) → q.selection ≡ Some t → waiting (popped q).queue ≡ waiting q
  ready_pop_keeps t e =
      pop_by (λ (r : Answered Popped). waiting r.queue ≡ waiting q) q (λ _ _. refl) refl
      (λ p f token n full room. let z : ◌≡◌ {A = ℕ} 0 1 = cc in absurd (omega arith))
      (λ p s f full. ready_waits s q.next f)

  -- an answer without work leaves all as it was
  pub idle_pop_keeps : hands_out (popped q).answer ≡ false → (popped q).queue ≡ q
  idle_pop_keeps =
      pop_by (λ (r : Answered Popped). hands_out r.answer ≡ false → r.queue ≡ q) q (λ _ _ _. refl) (λ _. refl)
      (λ p e token n full room w. let z : ◌≡◌ {A = ℕ} 0 1 = cc in absurd (omega arith))
      (λ p s e full w. let z : ◌≡◌ {A = ℕ} 0 1 = cc in absurd (omega arith))

-- ---- the other calls leave the list as it is
kept_none : (outcome kept : ℕ) → outcome ≡ 0 → keeps_on_done outcome kept ≡ false → kept ≡ 0
kept_none outcome kept o h = eqb-true kept 0 (not-false _ (sym (pass _ (ap (λ (x : ℕ). eqb x 0) o)) ∙ h))

module _ (q : Queue) (t : Ticket) (o : Outside q t) where
  abbrev before : waiting q ≡ without t.token (occupied 0 q.slots)
  before = ap (λ (s : Option Ticket). others s (occupied 0 q.slots)) o.selected

  done_waits : (kept : ℕ) → kept ≡ 0 → waiting (with_selection (took_back q t.token kept) None) ≡ waiting q
  done_waits kept e = ap (λ (k : ℕ). occupied 0 (set q.slots t.token k)) e ∙ (emptied_slots q.slots t.token ∙ sym before)

  failed_waits : (kept : ℕ) → waiting (with_failed (took_back q t.token kept) true) ≡ waiting q
  failed_waits kept = ap (λ (s : Option Ticket). others s (occupied 0 (set q.slots t.token kept))) o.selected ∙ (stored_slots q.slots t.token kept ∙ sym before)

pub complete_keeps_waiting : (q : Queue) (t : Ticket) (outcome kept : ℕ) → waiting (completed q t outcome kept).queue ≡ waiting q
complete_keeps_waiting q t outcome kept =
    complete_by (λ (r : Answered Completed). waiting r.queue ≡ waiting q) q t outcome kept (λ _. refl)
    (λ o l k. if_by (λ (p : Queue). waiting p ≡ waiting q) (eqb outcome 0) _ _ (λ z. done_waits q t o kept (kept_none outcome kept (eqb-true _ _ z) k)) (λ _. failed_waits q t o kept))

pub retry_keeps_waiting : (q : Queue) → waiting (retried q).queue ≡ waiting q
retry_keeps_waiting q = retry_by (λ (r : Answered Retried). waiting r.queue ≡ waiting q) q (λ _. refl) (λ w t e a. sym (ap (λ (s : Option Ticket). others s (occupied 0 q.slots)) e))

pub admit_keeps_waiting : (q : Queue) (matched : Bool) → waiting (admitted q matched).queue ≡ waiting q
unfolding admitted
admit_keeps_waiting q matched = if_by (λ (r : Answered Told). waiting r.queue ≡ waiting q) (not (well_formed q)) _ _ (λ _. refl) (λ _. refl)

pub end_keeps_waiting : (q : Queue) → waiting (ended q).queue ≡ waiting q
unfolding ended
end_keeps_waiting q = if_by (λ (r : Answered Told). waiting r.queue ≡ waiting q) (not (well_formed q)) _ _ (λ _. refl) (λ _. refl)

pub cancel_keeps_waiting : (q : Queue) → waiting (cancelled_by q).queue ≡ waiting q
unfolding cancelled_by
cancel_keeps_waiting q = if_by (λ (r : Answered Cancelled). waiting r.queue ≡ waiting q) (not (well_formed q)) _ _ (λ _. refl) (λ _. refl)

-- When precisely an answer is taken in, a ticket is renewed, and is_empty says yes; and every part that retry leaves
use Prim.Native.Nat.{ℕ, ◌<◌, ◌≤◌}
use mathlib.Core.Path.{◌≡◌, refl, sym, ap, ◌∙◌}
use mathlib.Core.Logic.{◌⊎◌, inl, inr, ⊎_elim, ◌↔◌}
use mathlib.Core.Bool.{Bool, true, false, not, ◌&&◌}
use mathlib.Core.List.{[]}
use native.Mathlib.Omega.{arith}
use borrow.Author.Tests.{ne_eqb, lt-ltb, eqb-true, eqb-false, ltb-true, not-true}
use lib.Dec.{eqb, ltb}
use Rattle.choice.proofs.Ways.{pass, and_left, and_right}
use Rattle.queue_record.specs.WellFormed.{well_formed}
use Rattle.queue_record.specs.Waiting.{waiting}
use Rattle.queue_record.specs.declared.record.Ticket.{Ticket}
use Rattle.queue_record.specs.declared.record.Queue.{Queue}
use Rattle.queue_record.proofs.Fit.{failed_not_issued}
use Rattle.queue_decisions.specs.Slots.{no_more}
use Rattle.queue_steps.specs.Attempts.{slot, completed, retry_allowed, renewed, retried}
use Rattle.queue_questions.specs.Questions.{yes_or_no, nothing_left, is_empty_told, can_retry_told}
use Rattle.cleanup_queue.specs.Parts.{RenewsTo}
use Rattle.cleanup_queue.proofs.ByCase.{complete_by, retry_by}
use Rattle.cleanup_queue.proofs.Finish.{asked_yes, yes_asked}
use Rattle.cleanup_queue.proofs.Upstream.{complete_only_out, complete_succeeds, told_retries, empty_means_lem, means_empty}
use Rattle.std.specs.Prelude.{Some, None, Ok}
use Rattle.queue_record.specs.declared.answered.Answered.{Answered}
use Rattle.queue_steps.specs.Types.{Completed, Retried}

-- ---- complete
module _ (q : Queue) (t : Ticket) (outcome kept : ℕ) where
  settled_sound : (completed q t outcome kept).answer ≡ (Ok tt) → well_formed q ≡ true
  settled_sound =
      complete_by (λ (r : Answered Completed). r.answer ≡ (Ok tt) → well_formed q ≡ true) q t outcome kept
      (λ n e. let z : ◌≡◌ {A = ℕ} 0 1 = cc in absurd (omega arith)) (λ o _ _ _. o.sound)

  failed_or_empty : outcome ≤ 1 → (outcome ≡ 0 → kept ≡ 0) → (outcome ≡ 1) ⊎ (kept ≡ 0)
  failed_or_empty l k = go (eqb outcome 0) refl
    where
      go : (b : Bool) → eqb outcome 0 ≡ b → (outcome ≡ 1) ⊎ (kept ≡ 0)
      go true e = inr (k (eqb-true outcome 0 e))
      go false e = let n : outcome ≡ 0 → ⊥ = eqb-false outcome 0 e in inl (omega arith)

  -- an answer is taken in exactly if this ticket is out, the outcome is Done or Failed, and Done keeps nothing
  pub settles_exactly_lem : ((completed q t outcome kept).answer ≡ (Ok tt))
      ↔ ((well_formed q ≡ true) × (q.issued ≡ true) × (q.selection ≡ Some t) × (outcome ≤ 1) × (outcome ≡ 0 → kept ≡ 0))
  settles_exactly_lem = (
    λ h. let o = complete_only_out q t outcome kept h in
        (settled_sound h, o.0, o.1, o.3, λ z. ⊎_elim (λ one. absurd (omega arith)) (λ none. none) o.4),
    λ p. complete_succeeds q t outcome kept p.0 p.1 p.2 p.3 (failed_or_empty p.3 p.4),
  )

-- ---- retry
module _ (q : Queue) where
  -- the ticket that is given is the selected one with next as its attempt, and this is left
  pub retry_leaves_whole : (t : Ticket) → (retried q).answer ≡ Ok t → (s : Ticket) × (q.selection ≡ Some s) × (t ≡ renewed q s) × RenewsTo q t (retried q).queue
  retry_leaves_whole =
      retry_by (λ (r : Answered Retried). (t : Ticket) → r.answer ≡ Ok t → (s : Ticket) × (q.selection ≡ Some s) × (t ≡ renewed q s) × RenewsTo q t r.queue) q
      (λ n t e. let z : ◌≡◌ {A = ℕ} 0 1 = cc in absurd (omega arith))
      (λ w s e a t h.
      let same : renewed q s ≡ t = cc in
      (s, e, sym same, (ap Some same, refl, failed_not_issued q w (and_left q.failed _ a), refl, refl, refl, refl)))

  abbrev Renewable : Type 0
  Renewable = (well_formed q ≡ true) × (q.failed ≡ true) × (q.next < no_more) × ((s : Ticket) × (q.selection ≡ Some s) × (slot q s.token ≡ 0 → ⊥))

  renewed_was : (t : Ticket) → (retried q).answer ≡ Ok t → Renewable
  renewed_was =
      retry_by (λ (r : Answered Retried). (t : Ticket) → r.answer ≡ Ok t → Renewable) q
      (λ n t e. let z : ◌≡◌ {A = ℕ} 0 1 = cc in absurd (omega arith))
      (λ w s e a t h.
      let full : (not (eqb (slot q s.token) 0) && ltb q.next no_more) ≡ true = and_right q.failed _ a in (
        w,
        and_left q.failed _ a,
        ltb-true _ _ (and_right (not (eqb (slot q s.token) 0)) _ full),
        (s, e, eqb-false _ _ (not-true _ (and_left (not (eqb (slot q s.token) 0)) _ full))),
      ))

  told_renewable : Renewable → can_retry_told q ≡ (Ok true)
  unfolding can_retry_told
  told_renewable p =
      let s = p.3.0 in
      let a : retry_allowed q (Some s) ≡ true = pass _ p.1 ∙ (pass _ (ap not (ne_eqb (slot q s.token) 0 p.3.2)) ∙ lt-ltb _ _ p.2) in
      yes_asked q (retry_allowed q q.selection) p.0 ∙ ap yes_or_no (ap (retry_allowed q) p.3.1 ∙ a)

  -- a ticket is given exactly if the selected one has failed, its slot is full, and an attempt is left
  pub retries_exactly_lem : ((t : Ticket) × ((retried q).answer ≡ Ok t))
      ↔ ((well_formed q ≡ true) × (q.failed ≡ true) × (q.next < no_more) × ((s : Ticket) × (q.selection ≡ Some s) × (slot q s.token ≡ 0 → ⊥)))
  retries_exactly_lem = (λ r. renewed_was r.0 r.1, λ p. told_retries q (told_renewable p))

  -- ---- is_empty
  empty_sound : is_empty_told q ≡ (Ok true) → well_formed q ≡ true
  unfolding is_empty_told
  empty_sound h = (asked_yes q (nothing_left q.selection (waiting q)) h).0

  pub empty_exactly : (is_empty_told q ≡ (Ok true)) ↔ ((well_formed q ≡ true) × (q.selection ≡ None) × (waiting q ≡ []))
  empty_exactly = (λ h. let e = empty_means_lem q h in (empty_sound h, e.0, e.1), λ p. means_empty q p.0 p.1 p.2)

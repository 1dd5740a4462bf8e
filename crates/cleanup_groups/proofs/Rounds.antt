-- retry_all retries every failed group, or changes nothing
use Prim.Native.Nat.{ℕ, ◌<◌}
use mathlib.Core.Path.{◌≡◌, refl, sym, ap, ◌∙◌}
use mathlib.Core.Bool.{true, false, not}
use native.Mathlib.Omega.{arith}
use borrow.Author.Tests.{not-true, not-false}
use lib.ListN.{length}
use Rattle.choice.proofs.Ways.{if_by, miss, pass, clash}
use Rattle.queue_record.specs.declared.record.Ticket.{Ticket}
use Rattle.queue_steps.specs.Attempts.{retried}
use Rattle.queue_questions.specs.Questions.{can_retry_told}
use Rattle.queue_record.specs.declared.refusal.Refusal.TheVariants.{Broken}
use Rattle.cleanup_queue.proofs.Upstream.{told_retries, retry_renews}
use Rattle.group_record.specs.Record.{queue_at}
use Rattle.group_asking.specs.Questions.{stuck}
use Rattle.group_check.specs.WellFormed.{well_grouped}
use Rattle.group_record.specs.declared.record.Place.{Place}
use Rattle.group_record.specs.declared.record.Groups.{Groups}
use Rattle.group_survey.specs.Whole.{retries_all}
use Rattle.group_rounds.specs.Rounds.{all_retried, round_done, retried_all}
use Rattle.cleanup_groups.specs.Promises.{LiveAt}
use Rattle.cleanup_groups.proofs.Drains.{yes_is}
use Rattle.cleanup_groups.proofs.Asked.{retries_means}
use Rattle.cleanup_groups.proofs.Keeps.{by_round, round_live}
use Rattle.std.specs.Prelude.{Ok, Err}
use Rattle.group_record.specs.declared.answered.GroupsAnswered.{GroupsAnswered}
use Rattle.queue_questions.specs.Types.{Told}

-- any answer but yes: the record is as it was
pub round_no : (g : Groups) → ((retried_all g).answer ≡ Ok true → ⊥) → (retried_all g).groups ≡ g
unfolding retried_all
round_no g =
    if_by (λ (r : GroupsAnswered Told). (r.answer ≡ Ok true → ⊥) → r.groups ≡ g) (not (well_grouped g)) _ _ (λ _ _. refl)
    (λ _. if_by (λ (r : GroupsAnswered Told). (r.answer ≡ Ok true → ⊥) → r.groups ≡ g) (not (retries_all g)) _ _ (λ _ _. refl) (λ _ n. absurd (n refl)))

-- yes: can_retry_all said yes, and every place is retried that is live and had failed
pub round_yes : (g : Groups) → (retried_all g).answer ≡ Ok true → (well_grouped g ≡ true) × (retries_all g ≡ true) × ((retried_all g).groups ≡ all_retried g)
unfolding retried_all
round_yes g =
    if_by (λ (r : GroupsAnswered Told). r.answer ≡ Ok true → (well_grouped g ≡ true) × (retries_all g ≡ true) × (r.groups ≡ all_retried g)) (not (well_grouped g)) _ _
    (λ _ h. let z : ◌≡◌ {A = ℕ} 0 1 = cc in absurd (omega arith))
    (λ w. if_by (λ (r : GroupsAnswered Told). r.answer ≡ Ok true → (well_grouped g ≡ true) × (retries_all g ≡ true) × (r.groups ≡ all_retried g)) (not (retries_all g)) _ _
    (λ _ h. let z : ◌≡◌ {A = ℕ} 0 1 = cc in absurd (omega arith))
    (λ t _. (not-false _ w, not-false _ t, refl)))

module _ (g : Groups) (l : length g.places ≡ 16) (t : retries_all g ≡ true) where
  -- each failed group got a renewed ticket
  pub round_renews : (i : ℕ) → i < 16 → LiveAt g i → (queue_at g i).failed ≡ true → (ticket : Ticket) × ((retried (queue_at g i)).answer ≡ Ok ticket)
  round_renews i k a f =
      let n : stuck (queue_at g i) ≡ false = not-true _ ((retries_means g l t).1 i k a) in
      told_retries (queue_at g i) (yes_is (can_retry_told (queue_at g i)) (not-false _ (sym (pass _ f) ∙ n)))

  -- one that had not failed keeps its whole queue
  pub round_keeps : (i : ℕ) → (queue_at g i).failed ≡ false → queue_at (all_retried g) i ≡ queue_at g i
  round_keeps i n = by_round (λ (p : Place). p.queue ≡ queue_at g i) g i (λ b f. clash f n) (λ _. refl)

  -- and none has failed afterwards
  pub round_clears : (i : ℕ) → i < 16 → LiveAt (all_retried g) i → (queue_at (all_retried g) i).failed ≡ false
  round_clears i k a =
      by_round (λ (p : Place). p.queue.failed ≡ false) g i
      (λ b f. let w = round_renews i k b f in (retry_renews (queue_at g i) w.0 w.1).2)
      (λ n. sym (pass _ (sym (round_live g i) ∙ a)) ∙ n)

-- where can_retry_all says yes, retry_all does
pub round_happens_lem : (g : Groups) → well_grouped g ≡ true → retries_all g ≡ true → (retried_all g).answer ≡ Ok true
unfolding retried_all
round_happens_lem g w t = ap (λ (r : GroupsAnswered Told). r.answer) (miss (round_done (Err Broken) g) (ap not w) ∙ miss (round_done (Ok false) g) (ap not t))

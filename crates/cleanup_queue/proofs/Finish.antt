-- When can_finish says yes, and what a failed and emptied slot blocks
use Prim.Native.Nat.{ℕ}
use mathlib.Core.Path.{◌≡◌, refl, ap, ◌∙◌}
use mathlib.Core.Bool.{Bool, true, false, not, ◌&&◌}
use mathlib.Core.List.{List, [], ◌∷◌}
use native.Mathlib.Omega.{arith}
use borrow.Author.Tests.{not-true}
use lib.Dec.{eqb}
use Rattle.choice.specs.Choice.{when◌then◌else◌}
use Rattle.stage.specs.Bindings.{same_set}
use Rattle.stage.specs.Phases.{is_pending, is_cancelled}
use Rattle.choice.proofs.Ways.{hit, miss, pass, and_left, and_right, clash}
use Rattle.stage.proofs.Sets.{same_means, means_same}
use Rattle.queue_record.specs.declared.refusal.Refusal.TheVariants.{Broken, NothingKept}
use Rattle.queue_record.specs.WellFormed.{well_formed}
use Rattle.queue_record.specs.Openings.{scope_of, iterator_of}
use Rattle.queue_record.specs.Waiting.{waiting}
use Rattle.queue_record.specs.declared.record.Ticket.{Ticket}
use Rattle.queue_record.specs.declared.record.Queue.{Queue}
use Rattle.queue_record.proofs.Fit.{failed_not_issued}
use Rattle.queue_steps.specs.Attempts.{slot, popped_nothing, popped_as, popped, refused_retry, renewed, retried_as, retried}
use Rattle.queue_decisions.specs.Pops.{pop_due}
use Rattle.queue_decisions.specs.Renewals.{renewed_unless, due_again, retry_due}
use Rattle.queue_questions.specs.Questions.{yes_or_no, asked, committed, finishable, can_finish_told, nothing_left, is_empty_told}
use Rattle.cleanup_queue.specs.Promises.{Finishable}
use Rattle.std.specs.Prelude.{Option, Some, None, Ok, Err}

-- ---- a question answered yes
pub asked_yes : (q : Queue) (b : Bool) → asked q b ≡ (Ok true) → (well_formed q ≡ true) × (b ≡ true)
asked_yes q b h = go (well_formed q) refl b refl h
  where
    go : (w : Bool) → well_formed q ≡ w → (c : Bool) → b ≡ c → (when not w then Err Broken else yes_or_no c) ≡ (Ok true) → (well_formed q ≡ true) × (b ≡ true)
    go true e true f h = (e, f)
    go true e false f h = let z : ◌≡◌ {A = ℕ} 0 1 = cc in absurd (omega arith)
    go false e c f h = let z : ◌≡◌ {A = ℕ} 0 1 = cc in absurd (omega arith)

pub yes_asked : (q : Queue) (b : Bool) → well_formed q ≡ true → asked q b ≡ yes_or_no b
yes_asked q b h = miss _ (ap not h)

-- ---- can_finish
module _ (q : Queue) (target : List ℕ) where
  pub finish_means_lem : can_finish_told q target ≡ (Ok true) → Finishable q target
  unfolding can_finish_told
  finish_means_lem h = go q.selection refl (asked_yes q (finishable q.selection q.phase target (committed q)) h).1
    where
      go : (s : Option Ticket) → q.selection ≡ s → finishable s q.phase target (committed q) ≡ true → Finishable q target
      go (Some t) e f = clash f refl
      go None e f =
          let r : (not (is_cancelled q.phase) && same_set target (committed q)) ≡ true = and_right (not (is_pending q.phase)) _ f in
          record {
            sound = (asked_yes q (finishable q.selection q.phase target (committed q)) h).0;
            free = e;
            not_pending = not-true _ (and_left (not (is_pending q.phase)) _ f);
            not_cancelled = not-true _ (and_left (not (is_cancelled q.phase)) _ r);
            same = same_means target (committed q) (and_right (not (is_cancelled q.phase)) _ r);
          }

  pub means_finish : Finishable q target → can_finish_told q target ≡ (Ok true)
  unfolding can_finish_told
  means_finish f =
      yes_asked q (finishable q.selection q.phase target (committed q)) f.sound
      ∙ ap yes_or_no (ap (λ (s : Option Ticket). finishable s q.phase target (committed q)) f.free
      ∙ (pass _ (ap not f.not_pending) ∙ (pass _ (ap not f.not_cancelled) ∙ means_same target (committed q) f.same)))

-- there is a record for which it says yes, and one with bindings: {4, 9}, target 9, 4, 9
pub finish_happens_lem : can_finish_told (scope_of 0 0) [] ≡ (Ok true)
unfolding can_finish_told scope_of well_formed same_set
finish_happens_lem = refl

pub finish_with_bindings : can_finish_told (iterator_of 0 0 (4 ∷ 9 ∷ [])) (9 ∷ 4 ∷ 9 ∷ []) ≡ (Ok true)
unfolding can_finish_told iterator_of well_formed same_set
finish_with_bindings = refl

-- ---- a failed, emptied slot blocks
module _ (q : Queue) (t : Ticket) (h : well_formed q ≡ true) (e : q.selection ≡ Some t) (f : q.failed ≡ true) where
  -- nothing is handed out while one has failed, whatever its slot holds
  pub failed_blocks : popped q ≡ popped_nothing q
  unfolding popped pop_due
  failed_blocks = miss _ (ap not h) ∙ ap (popped_as q) (miss _ (failed_not_issued q h f) ∙ hit _ f)

  pub failed_not_finished : (target : List ℕ) → can_finish_told q target ≡ (Ok false)
  unfolding can_finish_told
  failed_not_finished target = yes_asked q (finishable q.selection q.phase target (committed q)) h ∙ ap (λ (s : Option Ticket). yes_or_no (finishable s q.phase target (committed q))) e

  pub failed_not_empty : is_empty_told q ≡ (Ok false)
  unfolding is_empty_told
  failed_not_empty = yes_asked q (nothing_left q.selection (waiting q)) h ∙ ap (λ (s : Option Ticket). yes_or_no (nothing_left s (waiting q))) e

  -- and once it is emptied, no retry either
  pub emptied_no_retry : slot q t.token ≡ 0 → retried q ≡ refused_retry q NothingKept
  unfolding retried retry_due
  emptied_no_retry z =
      miss _ (ap not h) ∙ ap (retried_as q) (ap (due_again q.failed q.slots q.next) e
      ∙ ap (λ r. renewed_unless r (renewed q t)) (miss _ (ap not f) ∙ hit _ (ap (λ (n : ℕ). eqb n 0) z)))

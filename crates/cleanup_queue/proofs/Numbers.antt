-- Each call answers the first refusal that is due, and 0 where none is; a refusal leaves the record, and returns the number given
use Prim.Native.Nat.{ℕ}
use mathlib.Core.Path.{◌≡◌, refl, sym, ap, ◌∙◌}
use mathlib.Core.Bool.{Bool, not}
use mathlib.Core.List.{List, [], ◌∷◌}
use native.Mathlib.Omega.{arith}
use Rattle.choice.specs.Choice.{bit}
use Rattle.stage.specs.Phases.{is_pending, is_settled, is_cancelled}
use Rattle.choice.proofs.Ways.{if_by}
use Rattle.queue_record.specs.Refusals.{result_number}
use Rattle.queue_record.specs.declared.refusal.Refusal.{Refusal}
use Rattle.queue_record.specs.WellFormed.{well_formed}
use Rattle.queue_record.specs.Waiting.{waiting}
use Rattle.queue_record.specs.Openings.{Opening, opened_as}
use Rattle.queue_record.specs.declared.record.Ticket.{Ticket}
use Rattle.queue_record.specs.declared.record.Queue.{Queue}
use Rattle.queue_births.specs.Births.{registered, landed}
use Rattle.queue_steps.specs.Attempts.{popped, completed, retry_allowed, retried}
use Rattle.queue_questions.specs.Questions.{yes_or_no, asked, committed, nothing_left, finishable, is_empty_told, is_issued_told, is_pending_told}
use Rattle.queue_questions.specs.Questions.{is_settled_told, is_cancelled_told, has_failed_told, can_retry_told, can_finish_told, domain_told}
use Rattle.queue_stages.specs.Stages.{after_admit, admitted, ended, cancelled_by}
use Rattle.cleanup_queue.specs.Answers.{Said, opened_says, registered_says, popped_says, completed_says, retried_says, told_says, cancelled_says, domain_says}
use Rattle.cleanup_queue.specs.Orders.{Ground, first_refusal, first_due, first_said, opening_order, register_order, land_order, pop_order, work_values, complete_order}
use Rattle.cleanup_queue.specs.Orders.{retry_order, renewed_values, broken_only, OnlyBroken}
use Rattle.cleanup_queue.proofs.ByCase.{given_back, register_by, land_by, pop_by, complete_by, retry_by}
use Rattle.cleanup_queue.proofs.Said.{opening_said, register_said, land_said, pop_said_lem, complete_said_lem, retry_said_lem, told_said_lem, asked_said}
use Rattle.cleanup_queue.proofs.Said.{admit_said, end_said, cancel_said_lem, domain_said_lem, never_refused}
use Rattle.std.specs.Prelude.{Err}
use Rattle.queue_record.specs.declared.answered.Answered.{Answered}
use Rattle.queue_births.specs.Types.{Registered}
use Rattle.queue_questions.specs.Types.{Told}
use Rattle.queue_stages.specs.Types.{Cancelled}
use Rattle.queue_steps.specs.Types.{Completed, Popped, Retried}
pub use Rattle.cleanup_queue.proofs.Said.{due_if}

-- the number of what is said is the first that is due
said_number : (ds : List Ground) (back own : List ℕ) → (first_said ds back own).number ≡ first_due ds
said_number [] back own = refl
said_number (d ∷ ds) back own = due_if (λ (s : Said). s.number) d.case _ _ refl (said_number ds back own)

-- and of the first that is due
pub refusal_due : (ds : List Ground) → first_due ds ≡ result_number (first_refusal ds)
refusal_due [] = refl
refusal_due (d ∷ ds) = sym (due_if result_number d.case _ _ refl (sym (refusal_due ds)))

first : {s : Said} (ds : List Ground) (back own : List ℕ) → s ≡ first_said ds back own → s.number ≡ first_due ds
first ds back own e = ap (λ (s : Said). s.number) e ∙ said_number ds back own

-- ---- the openings
pub opening_number : (o : Opening) → (opened_says (opened_as o).answer).number ≡ first_due (opening_order o)
opening_number o = first (opening_order o) [] [] (opening_said o)

-- ---- the calls that change the queue
pub register_number : (q : Queue) (n : ℕ) → (registered_says (registered q n).answer).number ≡ first_due (register_order q n)
register_number q n = first (register_order q n) (n ∷ []) (q.count ∷ []) (register_said q n)

pub land_number : (q : Queue) (n : ℕ) → (registered_says (landed q n).answer).number ≡ first_due (land_order q n)
land_number q n = first (land_order q n) (n ∷ []) (q.count ∷ []) (land_said q n)

pub pop_number : (q : Queue) → (popped_says (popped q).answer).number ≡ first_due (pop_order q)
pop_number q = first (pop_order q) [] (work_values q q.issued q.failed q.selection) (pop_said_lem q)

pub complete_number : (q : Queue) (t : Ticket) (outcome kept : ℕ) → (completed_says (completed q t outcome kept).answer).number ≡ first_due (complete_order q t outcome kept)
complete_number q t outcome kept = first (complete_order q t outcome kept) (kept ∷ []) [] (complete_said_lem q t outcome kept)

pub retry_number : (q : Queue) → (retried_says (retried q).answer).number ≡ first_due (retry_order q)
retry_number q = first (retry_order q) [] (renewed_values q q.selection) (retry_said_lem q)

-- ---- the calls that refuse only with 1
-- a yes or a no is no refusal
pub told_number : (b : Bool) → (told_says (yes_or_no b)).number ≡ 0
told_number b = ap (λ (s : Said). s.number) (told_said_lem b)

module _ (q : Queue) where
  pub asked_number : (answer : Bool) → OnlyBroken q (asked q answer)
  asked_number answer = first (broken_only q) [] (bit answer ∷ []) (asked_said q answer)

  -- each of the eight questions refuses with 1 alone
  pub questions_number : (target : List ℕ)
      → OnlyBroken q (is_empty_told q) × OnlyBroken q (is_issued_told q) × OnlyBroken q (is_pending_told q) × OnlyBroken q (is_settled_told q)
      × OnlyBroken q (is_cancelled_told q) × OnlyBroken q (has_failed_told q) × OnlyBroken q (can_retry_told q) × OnlyBroken q (can_finish_told q target)
  unfolding is_empty_told is_issued_told is_pending_told is_settled_told is_cancelled_told has_failed_told can_retry_told can_finish_told
  questions_number target = (
    asked_number (nothing_left q.selection (waiting q)),
    asked_number q.issued,
    asked_number (is_pending q.phase),
    asked_number (is_settled q.phase),
    asked_number (is_cancelled q.phase),
    asked_number q.failed,
    asked_number (retry_allowed q q.selection),
    asked_number (finishable q.selection q.phase target (committed q)),
  )

  pub admit_number : (matched : Bool) → OnlyBroken q (admitted q matched).answer
  admit_number matched = first (broken_only q) [] (bit (is_pending (admitted q matched).queue.phase) ∷ []) (admit_said q matched)

  pub end_number : OnlyBroken q (ended q).answer
  end_number = first (broken_only q) [] (bit (is_pending q.phase) ∷ []) (end_said q)

  pub cancel_number : (cancelled_says (cancelled_by q).answer).number ≡ first_due (broken_only q)
  cancel_number = first (broken_only q) [] [] (cancel_said_lem q)

  pub domain_number : (domain_says (domain_told q)).number ≡ first_due (broken_only q)
  domain_number = first (broken_only q) [] (q.domain ∷ []) (domain_said_lem q)

-- what a refusal of register or land gives back
abbrev Returns : Queue → ℕ → Answered Registered → Type 0
Returns q n r = (refusal : Refusal) (given : ℕ) → r.answer ≡ Err (refusal, given) → (given ≡ n) × (r.queue ≡ q)

-- ---- a refusal changes nothing, and the number given comes back
pub register_returns : (q : Queue) (n : ℕ) (refusal : Refusal) (given : ℕ) → (registered q n).answer ≡ Err (refusal, given) → (given ≡ n) × ((registered q n).queue ≡ q)
register_returns q n = register_by (Returns q n) q n (λ m refusal given e. (sym (given_back e), refl)) (λ _ _ _ refusal given e. let z : ◌≡◌ {A = ℕ} 0 1 = cc in absurd (omega arith))

pub land_returns : (q : Queue) (n : ℕ) (refusal : Refusal) (given : ℕ) → (landed q n).answer ≡ Err (refusal, given) → (given ≡ n) × ((landed q n).queue ≡ q)
land_returns q n = land_by (Returns q n) q n (λ m refusal given e. (sym (given_back e), refl)) (λ _ _ _ _ refusal given e. let z : ◌≡◌ {A = ℕ} 0 1 = cc in absurd (omega arith))

pub complete_returns : (q : Queue) (t : Ticket) (outcome kept : ℕ) (refusal : Refusal) (given : ℕ)
    → (completed q t outcome kept).answer ≡ Err (refusal, given) → (given ≡ kept) × ((completed q t outcome kept).queue ≡ q)
complete_returns q t outcome kept =
    complete_by (λ (r : Answered Completed). (refusal : Refusal) (given : ℕ) → r.answer ≡ Err (refusal, given) → (given ≡ kept) × (r.queue ≡ q)) q t outcome kept
    (λ m refusal given e. (sym (given_back e), refl)) (λ _ _ _ refusal given e. let z : ◌≡◌ {A = ℕ} 0 1 = cc in absurd (omega arith))

pub pop_returns : (q : Queue) (refusal : Refusal) → (popped q).answer ≡ Err refusal → (popped q).queue ≡ q
pop_returns q =
    pop_by (λ (r : Answered Popped). (refusal : Refusal) → r.answer ≡ Err refusal → r.queue ≡ q) q (λ _ _ _ _. refl) (λ _ _. refl)
    (λ _ _ _ _ _ _ refusal e. let z : ◌≡◌ {A = ℕ} 0 1 = cc in absurd (omega arith)) (λ _ _ _ _ refusal e. let z : ◌≡◌ {A = ℕ} 0 1 = cc in absurd (omega arith))

pub retry_returns : (q : Queue) (refusal : Refusal) → (retried q).answer ≡ Err refusal → (retried q).queue ≡ q
retry_returns q =
    retry_by (λ (r : Answered Retried). (refusal : Refusal) → r.answer ≡ Err refusal → r.queue ≡ q) q (λ _ _ _. refl)
    (λ _ _ _ _ refusal e. let z : ◌≡◌ {A = ℕ} 0 1 = cc in absurd (omega arith))

pub admit_returns : (q : Queue) (matched : Bool) (refusal : Refusal) → (admitted q matched).answer ≡ Err refusal → (admitted q matched).queue ≡ q
unfolding admitted
admit_returns q matched refusal =
    if_by (λ (r : Answered Told). r.answer ≡ Err refusal → r.queue ≡ q) (not (well_formed q)) _ _
    (λ _ _. refl) (λ _ e. never_refused (is_pending (after_admit q.phase matched)) refusal e)

pub end_returns : (q : Queue) (refusal : Refusal) → (ended q).answer ≡ Err refusal → (ended q).queue ≡ q
unfolding ended
end_returns q refusal = if_by (λ (r : Answered Told). r.answer ≡ Err refusal → r.queue ≡ q) (not (well_formed q)) _ _ (λ _ _. refl) (λ _ e. never_refused (is_pending q.phase) refusal e)

pub cancel_returns : (q : Queue) (refusal : Refusal) → (cancelled_by q).answer ≡ Err refusal → (cancelled_by q).queue ≡ q
unfolding cancelled_by
cancel_returns q refusal =
    if_by (λ (r : Answered Cancelled). r.answer ≡ Err refusal → r.queue ≡ q) (not (well_formed q)) _ _
    (λ _ _. refl) (λ _ e. let z : ◌≡◌ {A = ℕ} 0 1 = cc in absurd (omega arith))

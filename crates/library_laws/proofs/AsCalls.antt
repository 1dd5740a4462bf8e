-- On words that encode a record each call for C is the queue's call on that record: number, all five words of the answer, words left
use Prim.Native.Nat.{ℕ}
use mathlib.Core.Path.{◌≡◌, refl, sym, ap, ◌∙◌}
use mathlib.Core.Bool.{Bool, true, false, not}
use mathlib.Core.List.{List, [], ◌∷◌}
use borrow.Author.Tests.{ne_eqb}
use lib.Dec.{eqb}
use Rattle.choice.specs.Choice.{when◌then◌else◌}
use Rattle.choice.proofs.Ways.{miss}
use Rattle.stage.specs.Phases.{is_pending, is_settled, is_cancelled}
use Rattle.queue_record.specs.declared.refusal.Refusal.{Refusal}
use Rattle.queue_record.specs.Refusals.{done, refusal_number}
use Rattle.queue_record.specs.Waiting.{waiting}
use Rattle.queue_record.specs.declared.record.Queue.{Queue}
use Rattle.queue_record.specs.declared.record.Ticket.{Ticket}
use Rattle.queue_births.specs.Births.{registered, landed}
use Rattle.queue_steps.specs.Attempts.{popped, completed, retried, retry_allowed}
use Rattle.queue_questions.specs.Questions.{asked, nothing_left, committed, finishable}
use Rattle.queue_questions.specs.Questions.{is_empty_told, is_issued_told, is_pending_told, is_settled_told, is_cancelled_told, has_failed_told, can_retry_told, can_finish_told, domain_told}
use Rattle.queue_stages.specs.Stages.{admitted, ended, cancelled_by}
use Rattle.cleanup_queue.specs.Answers.{Said, registered_says, popped_says, completed_says, retried_says, told_says, cancelled_says, domain_says}
use Rattle.queue_record.proofs.Above.{refusal_above}
use Rattle.log_entries.specs.Keeping.{Kept}
use Rattle.log_births.specs.Births.{register_recorded, land_recorded}
use Rattle.log_attempts.specs.Attempts.{pop_recorded, complete_recorded, retry_recorded}
use Rattle.log_stages.specs.Stages.{admit_recorded, end_recorded, cancel_recorded}
use Rattle.queue_words.specs.Words.{word, ticket_of, queue_of, words_of, encodes}
use Rattle.queue_words.specs.Exported.{Exported, exported, refused_on, born_said, pop_said, complete_said, retry_said, told_said, cancel_said, domain_said, admit_by, told_on}
use Rattle.queue_words.specs.Exported.{register_on, land_on, pop_on, complete_on, retry_on, end_on, cancel_on, domain_on}
use Rattle.queue_words.specs.Exported.{is_empty_on, is_issued_on, is_pending_on, is_settled_on, is_cancelled_on, has_failed_on, can_retry_on, can_finish_on}
use Rattle.gulberzan_c.specs.Recorded.{Recorded, recorded_on, kept_said, register_recorded_on, land_recorded_on, pop_recorded_on, complete_recorded_on, retry_recorded_on}
use Rattle.gulberzan_c.specs.Recorded.{admit_recorded_by, end_recorded_on, cancel_recorded_on}
use Rattle.library_laws.specs.Values.{plain_words, work_words, yes_no_words, written_as}
use Rattle.std.specs.Prelude.{Some, None, Ok, Err}
use Rattle.queue_births.specs.Types.{Registered}
use Rattle.queue_questions.specs.Types.{DomainTold, Told}
use Rattle.queue_stages.specs.Types.{Cancelled}
use Rattle.queue_steps.specs.Types.{Completed, Popped, Retried}

-- ---- the words of each answer; a refusal's number is not 0
pub refused_case : (n : Refusal) → ◌≡◌ {A = ℕ} 0 (when eqb (refusal_number n) done then 1 else 0)
refused_case n = sym (miss 1 (ne_eqb (refusal_number n) 0 (refusal_above n)))

module _ (ws : List ℕ) where
  -- a refusal as it is written, with what it gives back
  refused_written : (n : Refusal) (given : ℕ)
      → refused_on n given ws ≡ exported (refusal_number n) ((when eqb (refusal_number n) done then 1 else 0) ∷ given ∷ 0 ∷ 0 ∷ 0 ∷ []) ws
  refused_written n given = ap (λ (k : ℕ). exported (refusal_number n) (k ∷ given ∷ 0 ∷ 0 ∷ 0 ∷ []) ws) (refused_case n)

  born_written : (a : Registered) → born_said a ws ≡ written_as plain_words (registered_says a) ws
  born_written (Ok t) = refl
  born_written (Err (n, g)) = refused_written n g

  pop_written : (a : Popped) → pop_said a ws ≡ written_as work_words (popped_says a) ws
  pop_written (Ok (Some (t, n))) = refl
  pop_written (Ok None) = refl
  pop_written (Err n) = refused_written n 0

  complete_written : (a : Completed) → complete_said a ws ≡ written_as plain_words (completed_says a) ws
  complete_written (Ok tt) = refl
  complete_written (Err (n, g)) = refused_written n g

  retry_written : (a : Retried) → retry_said a ws ≡ written_as plain_words (retried_says a) ws
  retry_written (Ok t) = refl
  retry_written (Err n) = refused_written n 0

  told_written : (a : Told) → told_said a ws ≡ written_as yes_no_words (told_says a) ws
  told_written (Ok true) = refl
  told_written (Ok false) = refl
  told_written (Err n) = refused_written n 0

  cancel_written : (a : Cancelled) → cancel_said a ws ≡ written_as plain_words (cancelled_says a) ws
  cancel_written (Ok tt) = refl
  cancel_written (Err n) = refused_written n 0

  domain_written : (a : DomainTold) → domain_said a ws ≡ written_as plain_words (domain_says a) ws
  domain_written (Ok d) = refl
  domain_written (Err n) = refused_written n 0

-- what a recorded call hands back, in one of the forms
abbrev pub kept_written : {A : Type 0} → (Said → List ℕ) → (A → Said) → Kept A → Recorded
kept_written form says k = recorded_on (written_as form (says k.answer) (words_of k.queue)) k.log k.used

module _ (ws : List ℕ) (e : encodes ws ≡ true) where
  -- ---- plain calls
  pub register_as : (n : ℕ) → register_on ws n ≡ written_as plain_words (registered_says (registered (queue_of ws) n).answer) (words_of (registered (queue_of ws) n).queue)
  unfolding register_on
  register_as n = miss _ (ap not e) ∙ born_written _ (registered (queue_of ws) n).answer

  pub land_as : (n : ℕ) → land_on ws n ≡ written_as plain_words (registered_says (landed (queue_of ws) n).answer) (words_of (landed (queue_of ws) n).queue)
  unfolding land_on
  land_as n = miss _ (ap not e) ∙ born_written _ (landed (queue_of ws) n).answer

  pub pop_as : pop_on ws ≡ written_as work_words (popped_says (popped (queue_of ws)).answer) (words_of (popped (queue_of ws)).queue)
  unfolding pop_on
  pop_as = miss _ (ap not e) ∙ pop_written _ (popped (queue_of ws)).answer

  -- the ticket that three words are
  abbrev given : List ℕ → Ticket
  given t = ticket_of (word t 0) (word t 1) (word t 2)

  pub complete_as : (t : List ℕ) (o k : ℕ)
      → complete_on ws t o k ≡ written_as plain_words (completed_says (completed (queue_of ws) (given t) o k).answer) (words_of (completed (queue_of ws) (given t) o k).queue)
  unfolding complete_on
  complete_as t o k = miss _ (ap not e) ∙ complete_written _ (completed (queue_of ws) (given t) o k).answer

  pub retry_as : retry_on ws ≡ written_as plain_words (retried_says (retried (queue_of ws)).answer) (words_of (retried (queue_of ws)).queue)
  unfolding retry_on
  retry_as = miss _ (ap not e) ∙ retry_written _ (retried (queue_of ws)).answer

  pub admit_as : (m : Bool) → admit_by ws m ≡ written_as yes_no_words (told_says (admitted (queue_of ws) m).answer) (words_of (admitted (queue_of ws) m).queue)
  admit_as m = miss _ (ap not e) ∙ told_written _ (admitted (queue_of ws) m).answer

  pub end_as : end_on ws ≡ written_as yes_no_words (told_says (ended (queue_of ws)).answer) (words_of (ended (queue_of ws)).queue)
  unfolding end_on
  end_as = miss _ (ap not e) ∙ told_written _ (ended (queue_of ws)).answer

  pub cancel_as : cancel_on ws ≡ written_as plain_words (cancelled_says (cancelled_by (queue_of ws)).answer) (words_of (cancelled_by (queue_of ws)).queue)
  unfolding cancel_on
  cancel_as = miss _ (ap not e) ∙ cancel_written _ (cancelled_by (queue_of ws)).answer

  -- ---- questions
  abbrev TellsAs : Exported → Told → Type 0
  TellsAs x t = x ≡ written_as yes_no_words (told_says t) ws

  asked_as : (b : Bool) → TellsAs (told_on ws (asked (queue_of ws) b)) (asked (queue_of ws) b)
  asked_as b = miss _ (ap not e) ∙ told_written ws (asked (queue_of ws) b)

  abbrev Tells : Told → Type 0
  Tells t = TellsAs (told_on ws t) t

  told_as : (target : List ℕ) → Tells (is_empty_told (queue_of ws)) × Tells (is_issued_told (queue_of ws)) × Tells (is_pending_told (queue_of ws)) × Tells (is_settled_told (queue_of ws))
      × Tells (is_cancelled_told (queue_of ws)) × Tells (has_failed_told (queue_of ws)) × Tells (can_retry_told (queue_of ws)) × Tells (can_finish_told (queue_of ws) target)
  unfolding is_empty_told is_issued_told is_pending_told is_settled_told is_cancelled_told has_failed_told can_retry_told can_finish_told
  told_as target =
      let q : Queue = queue_of ws in (
        asked_as (nothing_left q.selection (waiting q)),
        asked_as q.issued,
        asked_as (is_pending q.phase),
        asked_as (is_settled q.phase),
        asked_as (is_cancelled q.phase),
        asked_as q.failed,
        asked_as (retry_allowed q q.selection),
        asked_as (finishable q.selection q.phase target (committed q)),
      )

  pub questions_as : (target : List ℕ) → TellsAs (is_empty_on ws) (is_empty_told (queue_of ws)) × TellsAs (is_issued_on ws) (is_issued_told (queue_of ws))
      × TellsAs (is_pending_on ws) (is_pending_told (queue_of ws)) × TellsAs (is_settled_on ws) (is_settled_told (queue_of ws))
      × TellsAs (is_cancelled_on ws) (is_cancelled_told (queue_of ws)) × TellsAs (has_failed_on ws) (has_failed_told (queue_of ws))
      × TellsAs (can_retry_on ws) (can_retry_told (queue_of ws)) × TellsAs (can_finish_on ws target) (can_finish_told (queue_of ws) target)
  unfolding is_empty_on is_issued_on is_pending_on is_settled_on is_cancelled_on has_failed_on can_retry_on can_finish_on
  questions_as = told_as

  pub domain_as : domain_on ws ≡ written_as plain_words (domain_says (domain_told (queue_of ws))) ws
  unfolding domain_on
  domain_as = miss _ (ap not e) ∙ domain_written ws (domain_told (queue_of ws))

  -- ---- recorded calls
  module _ (log : List ℕ) (used : ℕ) where
    kept_is : {A : Type 0} (said : A → List ℕ → Exported) (form : Said → List ℕ) (says : A → Said) (k : Kept A)
        → said k.answer (words_of k.queue) ≡ written_as form (says k.answer) (words_of k.queue) → kept_said said k ≡ kept_written form says k
    kept_is said form says k h = ap (λ (x : Exported). recorded_on x k.log k.used) h

    pub register_logged : (n : ℕ) → register_recorded_on ws n log used ≡ kept_written plain_words registered_says (register_recorded (queue_of ws) n log used)
    unfolding register_recorded_on
    register_logged n =
        let k : Kept Registered = register_recorded (queue_of ws) n log used in
        miss _ (ap not e) ∙ kept_is born_said plain_words registered_says k (born_written _ k.answer)

    pub land_logged : (n : ℕ) → land_recorded_on ws n log used ≡ kept_written plain_words registered_says (land_recorded (queue_of ws) n log used)
    unfolding land_recorded_on
    land_logged n =
        let k : Kept Registered = land_recorded (queue_of ws) n log used in
        miss _ (ap not e) ∙ kept_is born_said plain_words registered_says k (born_written _ k.answer)

    pub pop_logged : pop_recorded_on ws log used ≡ kept_written work_words popped_says (pop_recorded (queue_of ws) log used)
    unfolding pop_recorded_on
    pop_logged =
        let k : Kept Popped = pop_recorded (queue_of ws) log used in
        miss _ (ap not e) ∙ kept_is pop_said work_words popped_says k (pop_written _ k.answer)

    pub complete_logged : (t : List ℕ) (o j : ℕ) → complete_recorded_on ws t o j log used ≡ kept_written plain_words completed_says (complete_recorded (queue_of ws) (given t) o j log used)
    unfolding complete_recorded_on
    complete_logged t o j =
        let k : Kept Completed = complete_recorded (queue_of ws) (given t) o j log used in
        miss _ (ap not e) ∙ kept_is complete_said plain_words completed_says k (complete_written _ k.answer)

    pub retry_logged : retry_recorded_on ws log used ≡ kept_written plain_words retried_says (retry_recorded (queue_of ws) log used)
    unfolding retry_recorded_on
    retry_logged =
        let k : Kept Retried = retry_recorded (queue_of ws) log used in
        miss _ (ap not e) ∙ kept_is retry_said plain_words retried_says k (retry_written _ k.answer)

    pub admit_logged : (m : Bool) → admit_recorded_by ws m log used ≡ kept_written yes_no_words told_says (admit_recorded (queue_of ws) m log used)
    admit_logged m =
        let k : Kept Told = admit_recorded (queue_of ws) m log used in
        miss _ (ap not e) ∙ kept_is told_said yes_no_words told_says k (told_written _ k.answer)

    pub end_logged : end_recorded_on ws log used ≡ kept_written yes_no_words told_says (end_recorded (queue_of ws) log used)
    unfolding end_recorded_on
    end_logged =
        let k : Kept Told = end_recorded (queue_of ws) log used in
        miss _ (ap not e) ∙ kept_is told_said yes_no_words told_says k (told_written _ k.answer)

    pub cancel_logged : cancel_recorded_on ws log used ≡ kept_written plain_words cancelled_says (cancel_recorded (queue_of ws) log used)
    unfolding cancel_recorded_on
    cancel_logged =
        let k : Kept Cancelled = cancel_recorded (queue_of ws) log used in
        miss _ (ap not e) ∙ kept_is cancel_said plain_words cancelled_says k (cancel_written _ k.answer)

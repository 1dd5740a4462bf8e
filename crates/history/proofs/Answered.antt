-- What a recorded call says: accepted, what the plain call says; refused, the number that it was given
use Prim.Native.Nat.{ℕ}
use mathlib.Core.Path.{◌≡◌, refl, sym, ◌∙◌}
use mathlib.Core.Bool.{Bool}
use mathlib.Core.List.{List, [], ◌∷◌}
use Rattle.queue_record.specs.Refusals.{done, refusal_number}
use Rattle.queue_record.specs.declared.refusal.Refusal.{Refusal}
use Rattle.queue_record.specs.declared.record.Ticket.{Ticket}
use Rattle.queue_record.specs.declared.record.Queue.{Queue}
use Rattle.queue_births.specs.Births.{registered, landed}
use Rattle.queue_steps.specs.Attempts.{popped, completed, retried}
use Rattle.queue_stages.specs.Stages.{admitted, ended, cancelled_by}
use Rattle.cleanup_queue.specs.Answers.{Said, registered_says, popped_says, completed_says, retried_says, told_says, cancelled_says}
use Rattle.cleanup_queue.specs.Orders.{RefusedAs}
use Rattle.cleanup_queue.specs.Runs.{register, land, pop, complete, retry, admit, end, cancel}
use Rattle.cleanup_queue.proofs.Said.{register_refused, land_refused, pop_refused, complete_refused, retry_refused, admit_refused, end_refused, cancel_refused}
use Rattle.log_entries.specs.Types.{Entry, Noted}
use Rattle.log_entries.specs.Noting.{noted}
use Rattle.log_entries.specs.Keeping.{kept_noted, recorded_by}
use Rattle.queue_record.proofs.Above.{refusal_above}
use Rattle.log_entries.proofs.NoteLaws.{recorded_answer}
use Rattle.log_births.specs.Births.{born_not, register_recorded, land_recorded}
use Rattle.log_attempts.specs.Attempts.{pop_recorded, settled_not, complete_recorded, retry_recorded}
use Rattle.log_stages.specs.Stages.{admit_recorded, end_recorded, cancel_recorded}
use Rattle.cleanup_log.specs.Entries.{entry_of}
use Rattle.std.specs.Prelude.{Ok, Err}

-- back: what a refusal gives back; is: what the recorded call says; plain: what the plain one says
abbrev pub Answered : List ℕ → Said → Said → Type 0
Answered back is plain = (is.number ≡ done → is ≡ plain) × ((is.number ≡ done → ⊥) → is.values ≡ back)

module _ {A : Type 0} (says : A → Said) (refused : Refusal → A) (back : List ℕ) (reads : (r : Refusal) → (says (refused r)).number ≡ refusal_number r)
    (gives : (r : Refusal) → (says (refused r)).values ≡ back) where
  -- the answer by what is noted
  abbrev ends : Queue → ℕ → A → Queue → List ℕ → Noted → A
  ends q used answer after words a = (kept_noted refused q used answer after words a).answer

  answered : (q : Queue) (log : List ℕ) (used : ℕ) (answer : A) (after : Queue) (e : Entry) → RefusedAs q back (says answer) after
      → Answered back (says (recorded_by refused q log used answer after e).answer) (says answer)
  answered q log used answer after e r = (
    by (noted log used e).answer,
    recorded_answer (λ (a : A). ((says a).number ≡ done → ⊥) → (says a).values ≡ back) refused q log used answer after e (λ n _. gives n) (λ z. (r z).0),
  )
    where
      by : (a : Noted) → (says (ends q used answer after (noted log used e).log a)).number ≡ done → says (ends q used answer after (noted log used e).log a) ≡ says answer
      by (Ok more) z = refl
      by (Err n) z = absurd (refusal_above n (sym (reads n) ∙ z))

module _ (q : Queue) (log : List ℕ) (used : ℕ) where
  pub register_answered : (n : ℕ) → Answered (n ∷ []) (registered_says (register_recorded q n log used).answer) (registered_says (registered q n).answer)
  unfolding register_recorded
  register_answered n =
      answered registered_says (born_not n) (n ∷ []) (λ _. refl) (λ _. refl) q log used (registered q n).answer (registered q n).queue
      (entry_of q (register n)) (register_refused q n)

  pub land_answered : (n : ℕ) → Answered (n ∷ []) (registered_says (land_recorded q n log used).answer) (registered_says (landed q n).answer)
  unfolding land_recorded
  land_answered n =
      answered registered_says (born_not n) (n ∷ []) (λ _. refl) (λ _. refl) q log used (landed q n).answer (landed q n).queue
      (entry_of q (land n)) (land_refused q n)

  pub pop_answered : Answered [] (popped_says (pop_recorded q log used).answer) (popped_says (popped q).answer)
  unfolding pop_recorded
  pop_answered =
      answered popped_says Err [] (λ _. refl) (λ _. refl) q log used (popped q).answer (popped q).queue
      (entry_of q pop) (pop_refused q)

  pub complete_answered : (t : Ticket) (o k : ℕ)
      → Answered (k ∷ []) (completed_says (complete_recorded q t o k log used).answer) (completed_says (completed q t o k).answer)
  unfolding complete_recorded
  complete_answered t o k =
      answered completed_says (settled_not k) (k ∷ []) (λ _. refl) (λ _. refl) q log used (completed q t o k).answer (completed q t o k).queue
      (entry_of q (complete t o k)) (complete_refused q t o k)

  pub retry_answered : Answered [] (retried_says (retry_recorded q log used).answer) (retried_says (retried q).answer)
  unfolding retry_recorded
  retry_answered =
      answered retried_says Err [] (λ _. refl) (λ _. refl) q log used (retried q).answer (retried q).queue
      (entry_of q retry) (retry_refused q)

  pub admit_answered : (m : Bool) → Answered [] (told_says (admit_recorded q m log used).answer) (told_says (admitted q m).answer)
  unfolding admit_recorded
  admit_answered m =
      answered told_says Err [] (λ _. refl) (λ _. refl) q log used (admitted q m).answer (admitted q m).queue
      (entry_of q (admit m)) (admit_refused q m)

  pub end_answered : Answered [] (told_says (end_recorded q log used).answer) (told_says (ended q).answer)
  unfolding end_recorded
  end_answered =
      answered told_says Err [] (λ _. refl) (λ _. refl) q log used (ended q).answer (ended q).queue
      (entry_of q end) (end_refused q)

  pub cancel_answered : Answered [] (cancelled_says (cancel_recorded q log used).answer) (cancelled_says (cancelled_by q).answer)
  unfolding cancel_recorded
  cancel_answered =
      answered cancelled_says Err [] (λ _. refl) (λ _. refl) q log used (cancelled_by q).answer (cancelled_by q).queue
      (entry_of q cancel) (cancel_refused q)

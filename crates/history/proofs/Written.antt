-- One recorded call, whichever: its number and the bench behind it are what its note says
use Prim.Native.Nat.{ℕ, ◌+◌}
use mathlib.Core.Path.{◌≡◌, refl, sym, ap, ◌∙◌}
use mathlib.Core.Bool.{false}
use mathlib.Core.Logic.{⊎_elim}
use mathlib.Core.List.{List}
use Rattle.choice.proofs.Ways.{clash}
use Rattle.queue_record.specs.Refusals.{done, refusal_number, result_number}
use Rattle.queue_record.specs.declared.refusal.Refusal.{Refusal}
use Rattle.std.specs.Result.{result_err}
use Rattle.queue_record.specs.declared.record.Queue.{Queue}
use Rattle.queue_births.specs.Births.{registered, landed}
use Rattle.queue_steps.specs.Attempts.{popped, completed, retried}
use Rattle.queue_stages.specs.Stages.{admitted, ended, cancelled_by}
use Rattle.cleanup_queue.specs.Answers.{Said, registered_says, popped_says, completed_says, retried_says, told_says, cancelled_says}
use Rattle.cleanup_queue.specs.Runs.{Call, register, land, pop, complete, retry, admit, end, cancel, after}
use Rattle.log_rows.specs.Rows.{flat, written}
use Rattle.log_rows.specs.Kinds.{register_kind, land_kind, admit_kind, end_kind}
use Rattle.log_rows.specs.declared.Row.{Row}
use Rattle.log_entries.specs.Types.{Entry, Noted}
use Rattle.log_entries.specs.Noting.{Note, changes, noted}
use Rattle.log_entries.specs.Keeping.{kept_noted, recorded_by}
use Rattle.queue_record.proofs.Above.{refusal_above}
use Rattle.log_entries.proofs.NoteLaws.{Put, note_tells, note_goes, recorded_number}
use Rattle.log_births.specs.Births.{born_not, register_recorded, land_recorded}
use Rattle.log_attempts.specs.Attempts.{pop_recorded, settled_not, complete_recorded, retry_recorded}
use Rattle.log_stages.specs.Stages.{admit_recorded, end_recorded, cancel_recorded}
use Rattle.cleanup_log.specs.Entries.{entry_of}
use Rattle.cleanup_log.proofs.Changes.{call_changes}
use Rattle.cleanup_log.proofs.RecordedNumbers.{birth_number, work_number, settled_number, renewed_number, told_number, cancelled_number}
use Rattle.history.specs.Histories.{Bench, bench, Outcome, outcome, recorded, called, number_of}
use Rattle.std.specs.Prelude.{Some, Ok, Err}

pub benches : {p q : Queue} {m n : ℕ} {k l : List ℕ} → p ≡ q → m ≡ n → k ≡ l → bench p m k ≡ bench q n l
benches e f g = rw (e, f, g)

-- where a note leaves a bench, p being what the plain call leaves
abbrev bench_at : Bench → Queue → List ℕ → Noted → Bench
bench_at b p log (Ok more) = bench p more log
bench_at b p log (Err r) = bench b.queue b.used log

abbrev bench_by : Bench → Queue → Note → Bench
bench_by b p n = bench_at b p n.log n.answer

abbrev Tells : Bench → Queue → Entry → Outcome → Type 0
Tells b p e o = (o.number ≡ result_number (result_err (noted b.log b.used e).answer)) × (o.bench ≡ bench_by b p (noted b.log b.used e))

by_note : {A : Type 0} (says : A → Said) (refused : Refusal → A) → ((r : Refusal) → (says (refused r)).number ≡ refusal_number r) → (b : Bench) (answer : A) (p : Queue) (e : Entry)
    → result_number (result_err e) ≡ (says answer).number → Tells b p e (outcome says (recorded_by refused b.queue b.log b.used answer p e))
by_note {A} says refused reads b answer p e own = (
  recorded_number (λ (a : A). (says a).number) refused reads b.queue b.log b.used answer p e own,
  by (noted b.log b.used e).answer,
)
  where
    by : (a : Noted) → (outcome says (kept_noted refused b.queue b.used answer p (noted b.log b.used e).log a)).bench ≡ bench_at b p (noted b.log b.used e).log a
    by (Ok more) = refl
    by (Err r) = refl

is_noted : (b : Bench) (c : Call) → Tells b (after b.queue c) (entry_of b.queue c) (recorded b c)
unfolding register_recorded land_recorded pop_recorded complete_recorded retry_recorded admit_recorded end_recorded cancel_recorded
is_noted b (register n) =
    let q = b.queue in
    by_note registered_says (born_not n) (λ _. refl) b (registered q n).answer (registered q n).queue
    (entry_of q (register n)) (birth_number register_kind n (registered q n).answer)
is_noted b (land n) = let q = b.queue in by_note registered_says (born_not n) (λ _. refl) b (landed q n).answer (landed q n).queue (entry_of q (land n)) (birth_number land_kind n (landed q n).answer)
is_noted b pop = let q = b.queue in by_note popped_says Err (λ _. refl) b (popped q).answer (popped q).queue (entry_of q pop) (work_number (popped q).answer)
is_noted b (complete t o k) =
    let q = b.queue in
    by_note completed_says (settled_not k) (λ _. refl) b (completed q t o k).answer (completed q t o k).queue
    (entry_of q (complete t o k)) (settled_number t o k (completed q t o k).answer)
is_noted b retry = let q = b.queue in by_note retried_says Err (λ _. refl) b (retried q).answer (retried q).queue (entry_of q retry) (renewed_number (retried q).answer)
is_noted b (admit m) =
    let q = b.queue in
    by_note told_says Err (λ _. refl) b (admitted q m).answer (admitted q m).queue
    (entry_of q (admit m)) (told_number admit_kind q.phase (admitted q m).queue.phase (admitted q m).answer)
is_noted b end =
    let q = b.queue in
    by_note told_says Err (λ _. refl) b (ended q).answer (ended q).queue
    (entry_of q end) (told_number end_kind q.phase (ended q).queue.phase (ended q).answer)
is_noted b cancel =
    let q = b.queue in
    by_note cancelled_says Err (λ _. refl) b (cancelled_by q).answer (cancelled_by q).queue
    (entry_of q cancel) (cancelled_number q.phase (cancelled_by q).queue.phase (cancelled_by q).answer)

module _ (b : Bench) (c : Call) where
  abbrev told : Note
  told = noted b.log b.used (entry_of b.queue c)

  -- its number and its bench by what is told
  number_by : {a : Noted} → told.answer ≡ a → number_of b c ≡ result_number (result_err a)
  number_by e = (is_noted b c).0 ∙ ap (λ (a : Noted). result_number (result_err a)) e

  bench_is : {a : Noted} → told.answer ≡ a → called b c ≡ bench_at b (after b.queue c) told.log a
  bench_is e = (is_noted b c).1 ∙ ap (bench_at b (after b.queue c) told.log) e

  -- a refused recorded call leaves record, used count and lent memory as they were, whatever its inputs
  pub refused_stays : (number_of b c ≡ done → ⊥) → called b c ≡ b
  refused_stays h = by told.answer refl
    where
      by : (a : Noted) → told.answer ≡ a → called b c ≡ b
      by (Ok more) e = absurd (h (number_by e))
      by (Err r) e = bench_is e ∙ benches refl refl ((note_tells b.log b.used (entry_of b.queue c)).0 r e)

  -- an accepted one leaves what the plain call leaves
  pub accepted_is : number_of b c ≡ done → (more : ℕ) × (told.answer ≡ Ok more) × (called b c ≡ bench (after b.queue c) more told.log)
  accepted_is h = by told.answer refl
    where
      by : (a : Noted) → told.answer ≡ a → (more : ℕ) × (told.answer ≡ Ok more) × (called b c ≡ bench (after b.queue c) more told.log)
      by (Ok more) e = (more, e, bench_is e)
      by (Err r) e = absurd (refusal_above r (sym (number_by e) ∙ h))

  -- with room, a call that changes the queue is accepted, and its row is written
  pub goes : Put b.log b.used → (row : Row) → entry_of b.queue c ≡ Ok (Some row)
      → (number_of b c ≡ done) × (called b c ≡ bench (after b.queue c) (b.used + 1) (written b.log b.used (flat row)))
  goes p row r =
      let e = note_goes b.log b.used (entry_of b.queue c) p row r in (
        (is_noted b c).0 ∙ ap (λ (n : Note). result_number (result_err n.answer)) e,
        (is_noted b c).1 ∙ ap (bench_by b (after b.queue c)) e,
      )

  -- one that changes nothing of the queue, accepted, leaves record, used count and log
  pub quiet_stays : number_of b c ≡ done → changes (entry_of b.queue c) ≡ false → called b c ≡ b
  quiet_stays h k =
      let a = accepted_is h in
      a.2 ∙ ⊎_elim (λ x. benches ((call_changes b.queue c).0 k) x.1 x.2) (λ x. clash (ap changes x.1) k) ((note_tells b.log b.used (entry_of b.queue c)).1 a.0 a.1)

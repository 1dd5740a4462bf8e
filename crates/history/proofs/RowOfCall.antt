-- The row that a changing call writes is replayed to what the call leaves
use Prim.Native.Nat.{ℕ}
use mathlib.Core.Path.{◌≡◌, refl, sym, ap, ◌∙◌, subst}
use native.Mathlib.Omega.{arith}
use mathlib.Core.Bool.{Bool, true, false, not}
use borrow.Author.Tests.{eq-eqb}
use Rattle.stage.specs.Phases.{phase_after, phase_number, differs}
use Rattle.stage.specs.declared.phases.Phase.{Phase}
use Rattle.stage.specs.declared.phases.Event.{Event}
use Rattle.stage.specs.declared.phases.Event.TheVariants.{Admit, End, Cancel}
use Rattle.choice.proofs.Ways.{miss, pass, clash}
use Rattle.queue_record.specs.WellFormed.{well_formed}
use Rattle.queue_record.specs.declared.record.Ticket.{Ticket}
use Rattle.queue_record.specs.declared.record.Queue.{Queue}
use Rattle.queue_record.proofs.Fit.{selected_domain}
use Rattle.queue_births.specs.Births.{registered, landed}
use Rattle.queue_steps.specs.Attempts.{popped, completed, retried, is_settled_answer}
use Rattle.queue_decisions.proofs.AnswerLaws.{same_parts}
use Rattle.queue_stages.specs.Stages.{admitted, ended, cancelled_by}
use Rattle.cleanup_queue.specs.Runs.{Call, register, land, pop, complete, retry, admit, end, cancel, after}
use Rattle.cleanup_queue.proofs.ByCase.{complete_by}
use Rattle.log_rows.specs.Rows.{row_of}
use Rattle.log_rows.specs.declared.Row.{Row}
use Rattle.log_rows.specs.Kinds.{register_kind, land_kind, admit_kind, end_kind, cancel_kind}
use Rattle.choice.specs.Choice.{when◌then◌else◌}
use Rattle.queue_record.proofs.Refused.{err_ok}
use Rattle.log_entries.specs.Types.{Entry}
use Rattle.log_entries.specs.Made.{complete_row, stage_row}
use Rattle.cleanup_log.specs.Entries.{entry_of}
use Rattle.log_births.specs.Births.{birth_entry}
use Rattle.log_attempts.specs.Attempts.{pop_entry, complete_entry, retry_entry}
use Rattle.log_stages.specs.Stages.{stage_entry, cancel_entry}
use Rattle.log_replay.specs.Replay.{same_row, stepped, birth_fits, pop_fits, row_ticket, retry_fits, replayed_stage, replayed}
use Rattle.log_replay.specs.declared.replay.Replayed.{Replayed}
use Rattle.log_replay.proofs.ByKind.{same_columns, at0, at1, at2, at3, at4, at5, at6, at7}
use Rattle.log_replay.proofs.RowsKeep.{admit_moves, end_moves, cancel_moves}
use Rattle.std.specs.Prelude.{Some, None, Ok, Err}
use Rattle.queue_record.specs.declared.answered.Answered.{Answered}
use Rattle.queue_births.specs.Types.{Registered}
use Rattle.queue_questions.specs.Types.{Told}
use Rattle.queue_stages.specs.Types.{Cancelled}
use Rattle.queue_steps.specs.Types.{Completed, Popped, Retried}

-- the row is replayed to the record p
pub record Replays (q : Queue) (row : Row) (p : Queue) : Type 0 where
  pub fits : (replayed q row).fits ≡ true
  pub leaves : (replayed q row).queue ≡ p

replays : (q : Queue) (row : Row) (p : Queue) (b : Bool) → b ≡ true → replayed q row ≡ stepped b p → Replays q row p
replays q row p b t e = record { fits = ap (λ (x : Replayed). x.fits) e ∙ t; leaves = ap (λ (x : Replayed). x.queue) e }

self_same : (row : Row) → same_row row row ≡ true
self_same row = same_columns row row (record { kind = refl; token = refl; attempt = refl; outcome = refl; number = refl })

-- an admit without a match moves nothing
unmoved : (q : Queue) → well_formed q ≡ true → after q (admit false) ≡ q
unfolding admitted
unmoved q w = ap (λ (x : Answered Told). x.queue) (miss _ (ap not w))

-- a row that was made is the row that an entry has
pub same_made : {made row : Row} → ◌≡◌ {A = Entry} (Ok (Some made)) (Ok (Some row)) → made ≡ row
same_made e = cc

pub no_row : {A : Type 0} {row : Row} → ◌≡◌ {A = Entry} (Ok None) (Ok (Some row)) → A
no_row e = let z : ◌≡◌ {A = ℕ} 0 1 = cc in absurd (omega arith)

-- a row there is only where the phase is another
moved_where : (b : Bool) {made row : Row} → ◌≡◌ {A = Entry} (Ok (when b then Some made else None)) (Ok (Some row)) → (b ≡ true) × (made ≡ row)
moved_where true h = (refl, same_made h)
moved_where false h = no_row h

module _ (q : Queue) where
  abbrev Writes : Call → Entry → Type 0
  Writes c e = (row : Row) → e ≡ Ok (Some row) → Replays q row (after q c)

  -- a made row is replayed, so the entry's is
  made : (c : Call) {m : Row} → Replays q m (after q c) → Writes c (Ok (Some m))
  made c r row h = subst (λ (x : Row). Replays q x (after q c)) (same_made h) r

  register_row : (n : ℕ) → Writes (register n) (birth_entry register_kind n (registered q n).answer)
  register_row n = go (registered q n).answer refl
    where
      go : (a : Registered) → (registered q n).answer ≡ a → Writes (register n) (birth_entry register_kind n a)
      go (Ok t) e =
          made (register n)
          (replays q (row_of 0 t 0 0 n) (registered q n).queue (birth_fits (registered q n).answer (row_of 0 t 0 0 n))
          (ap (λ (a : Registered). birth_fits a (row_of 0 t 0 0 n)) e ∙ self_same (row_of 0 t 0 0 n)) (at0 q (row_of 0 t 0 0 n) refl))
      go (Err (m, g)) e = λ row k. err_ok k

  land_row : (n : ℕ) → Writes (land n) (birth_entry land_kind n (landed q n).answer)
  land_row n = go (landed q n).answer refl
    where
      go : (a : Registered) → (landed q n).answer ≡ a → Writes (land n) (birth_entry land_kind n a)
      go (Ok t) e =
          made (land n)
          (replays q (row_of 1 t 0 0 n) (landed q n).queue (birth_fits (landed q n).answer (row_of 1 t 0 0 n))
          (ap (λ (a : Registered). birth_fits a (row_of 1 t 0 0 n)) e ∙ self_same (row_of 1 t 0 0 n)) (at1 q (row_of 1 t 0 0 n) refl))
      go (Err (m, g)) e = λ row k. err_ok k

  pop_row : Writes pop (pop_entry (popped q).answer)
  pop_row = go (popped q).answer refl
    where
      go : (a : Popped) → (popped q).answer ≡ a → Writes pop (pop_entry a)
      go (Ok (Some (t, n))) e =
          made pop
          (replays q (row_of 2 t.token t.attempt 0 0) (popped q).queue (pop_fits (popped q).answer (row_of 2 t.token t.attempt 0 0))
          (ap (λ (a : Popped). pop_fits a (row_of 2 t.token t.attempt 0 0)) e
          ∙ self_same (row_of 2 t.token t.attempt 0 0)) (at2 q (row_of 2 t.token t.attempt 0 0) refl))
      go (Ok None) e = λ row k. no_row k
      go (Err m) e = λ row k. err_ok k

  retry_row : Writes retry (retry_entry (retried q).answer)
  retry_row = go (retried q).answer refl
    where
      go : (a : Retried) → (retried q).answer ≡ a → Writes retry (retry_entry a)
      go (Ok t) e =
          made retry
          (replays q (row_of 4 t.token t.attempt 0 0) (retried q).queue (retry_fits (retried q).answer (row_of 4 t.token t.attempt 0 0))
          (ap (λ (a : Retried). retry_fits a (row_of 4 t.token t.attempt 0 0)) e
          ∙ self_same (row_of 4 t.token t.attempt 0 0)) (at4 q (row_of 4 t.token t.attempt 0 0) refl))
      go (Err m) e = λ row k. err_ok k

  -- the ticket that was taken is of the queue's own domain
  own_ticket_lem : (t : Ticket) (o k : ℕ) → is_settled_answer (completed q t o k).answer ≡ true → row_ticket q (row_of 3 t.token t.attempt o k) ≡ t
  own_ticket_lem t o k =
      complete_by (λ (x : Answered Completed). is_settled_answer x.answer ≡ true → row_ticket q (row_of 3 t.token t.attempt o k) ≡ t) q t o k (λ _ h. clash h refl)
      (λ u _ _ _. same_parts (row_ticket q (row_of 3 t.token t.attempt o k)) t (sym (selected_domain q t u.sound u.selected)) refl refl)

  complete_row_lem : (t : Ticket) (o k : ℕ) → is_settled_answer (completed q t o k).answer ≡ true → Replays q (row_of 3 t.token t.attempt o k) (after q (complete t o k))
  complete_row_lem t o k h =
      replays q (row_of 3 t.token t.attempt o k) (completed q t o k).queue (is_settled_answer (completed q t o k).answer) h
      (at3 q (row_of 3 t.token t.attempt o k) refl ∙ ap (λ (u : Ticket). stepped (is_settled_answer (completed q u o k).answer) (completed q u o k).queue) (own_ticket_lem t o k h))

  module _ (w : well_formed q ≡ true) where
    -- a stage that did not move is no row
    still : (p : Phase) → differs p p ≡ false
    still p = ap not (eq-eqb (phase_number p) (phase_number p) refl)

    stage_fits : (e : Event) (k : ℕ) → differs q.phase (phase_after q.phase e) ≡ true → (replayed_stage q e (row_of k 0 0 0 0)).fits ≡ true
    stage_fits e k d = pass _ w ∙ (pass _ d ∙ self_same (row_of k 0 0 0 0))

    admit_row : (m : Bool) → differs q.phase (after q (admit m)).phase ≡ true → Replays q (row_of 5 0 0 0 0) (after q (admit m))
    admit_row true h = record {
      fits = ap (λ (x : Replayed). x.fits) (at5 q (row_of 5 0 0 0 0) refl) ∙ stage_fits Admit 5 (ap (λ (x : Queue). differs q.phase x.phase) (sym (admit_moves q w)) ∙ h);
      leaves = ap (λ (x : Replayed). x.queue) (at5 q (row_of 5 0 0 0 0) refl) ∙ sym (admit_moves q w);
    }
    admit_row false h = clash h (ap (λ (x : Queue). differs q.phase x.phase) (unmoved q w) ∙ still q.phase)

    end_row : differs q.phase (after q end).phase ≡ true → Replays q (row_of 6 0 0 0 0) (after q end)
    end_row h = record {
      fits = ap (λ (x : Replayed). x.fits) (at6 q (row_of 6 0 0 0 0) refl) ∙ stage_fits End 6 (ap (λ (x : Queue). differs q.phase x.phase) (sym (end_moves q w)) ∙ h);
      leaves = ap (λ (x : Replayed). x.queue) (at6 q (row_of 6 0 0 0 0) refl) ∙ sym (end_moves q w);
    }

    cancel_row : differs q.phase (after q cancel).phase ≡ true → Replays q (row_of 7 0 0 0 0) (after q cancel)
    cancel_row h = record {
      fits = ap (λ (x : Replayed). x.fits) (at7 q (row_of 7 0 0 0 0) refl) ∙ stage_fits Cancel 7 (ap (λ (x : Queue). differs q.phase x.phase) (sym (cancel_moves q w)) ∙ h);
      leaves = ap (λ (x : Replayed). x.queue) (at7 q (row_of 7 0 0 0 0) refl) ∙ sym (cancel_moves q w);
    }

  -- ---- whichever the call: the row of its entry
  pub settled_row : (t : Ticket) (o k : ℕ) (a : Completed) (row : Row) → complete_entry t o k a ≡ Ok (Some row)
      → (is_settled_answer a ≡ true) × (complete_row t.token t.attempt o k ≡ row)
  settled_row t o k (Ok tt) row h = (refl, same_made h)
  settled_row t o k (Err (n, g)) row h = err_ok h

  pub told_row : (kind : ℕ) (was is : Phase) (a : Told) (row : Row) → stage_entry kind was is a ≡ Ok (Some row) → (differs was is ≡ true) × (stage_row kind ≡ row)
  told_row kind was is (Ok b) row h = moved_where (differs was is) h
  told_row kind was is (Err n) row h = err_ok h

  pub cancelled_row : (was is : Phase) (a : Cancelled) (row : Row) → cancel_entry was is a ≡ Ok (Some row) → (differs was is ≡ true) × (stage_row cancel_kind ≡ row)
  cancelled_row was is (Ok tt) row h = moved_where (differs was is) h
  cancelled_row was is (Err n) row h = err_ok h

  pub call_row : well_formed q ≡ true → (c : Call) → Writes c (entry_of q c)
  call_row w (register n) = register_row n
  call_row w (land n) = land_row n
  call_row w pop = pop_row
  call_row w (complete t o k) =
      λ row h.
      let s = settled_row t o k (completed q t o k).answer row h in subst (λ (x : Row). Replays q x (after q (complete t o k))) s.1 (complete_row_lem t o k s.0)
  call_row w retry = retry_row
  call_row w (admit m) =
      λ row h.
      let s = told_row admit_kind q.phase (admitted q m).queue.phase (admitted q m).answer row h in
      subst (λ (x : Row). Replays q x (after q (admit m))) s.1 (admit_row w m s.0)
  call_row w end =
      λ row h.
      let s = told_row end_kind q.phase (ended q).queue.phase (ended q).answer row h in subst (λ (x : Row). Replays q x (after q end)) s.1 (end_row w s.0)
  call_row w cancel =
      λ row h.
      let s = cancelled_row q.phase (cancelled_by q).queue.phase (cancelled_by q).answer row h in
      subst (λ (x : Row). Replays q x (after q cancel)) s.1 (cancel_row w s.0)

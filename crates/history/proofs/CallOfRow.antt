-- A row that the reader replays is written by some recorded call, where there is room
use Prim.Native.Nat.{ℕ, zero, suc, ◌+◌}
use mathlib.Core.Path.{◌≡◌, refl, sym, ap, ◌∙◌}
use mathlib.Core.Bool.{Bool, true, false, not, ◌&&◌}
use mathlib.Core.List.{[], ◌∷◌}
use Rattle.stage.specs.Phases.{phase_after, differs, is_pending}
use Rattle.stage.specs.declared.phases.Phase.{Phase}
use Rattle.stage.specs.declared.phases.Event.{Event}
use Rattle.stage.specs.declared.phases.Event.TheVariants.{Admit, End, Cancel}
use Rattle.choice.proofs.Ways.{hit, miss, pass, and_left, and_right, clash}
use Rattle.queue_record.specs.Refusals.{done}
use Rattle.queue_record.specs.WellFormed.{well_formed}
use Rattle.queue_record.specs.declared.record.Queue.{Queue}
use Rattle.queue_births.specs.Births.{registered, landed}
use Rattle.queue_steps.specs.Attempts.{popped, completed, retried, is_settled_answer}
use Rattle.queue_questions.specs.Questions.{yes_or_no}
use Rattle.queue_stages.specs.Stages.{admitted, ended, cancelled_by}
use Rattle.cleanup_queue.specs.Runs.{Call, register, land, pop, complete, retry, admit, end, cancel, after}
use Rattle.log_rows.specs.Rows.{row_of, flat, written}
use Rattle.log_rows.specs.Kinds.{register_kind, land_kind, admit_kind, end_kind, cancel_kind}
use Rattle.log_rows.specs.declared.Row.{Row}
use Rattle.log_entries.proofs.NoteLaws.{Put}
use Rattle.log_births.specs.Births.{birth_entry}
use Rattle.log_attempts.specs.Attempts.{pop_entry, complete_entry, retry_entry}
use Rattle.log_stages.specs.Stages.{moved_row, stage_entry, cancel_entry}
use Rattle.cleanup_log.specs.Entries.{entry_of}
use Rattle.log_replay.specs.Replay.{same_row, birth_fits, pop_fits, row_ticket, retry_fits, replayed_birth, replayed_pop, replayed_complete, replayed_retry, replayed_stage, replayed}
use Rattle.log_replay.specs.declared.replay.Replayed.{Replayed}
use Rattle.log_replay.proofs.ByKind.{Columns, columns, at0, at1, at2, at3, at4, at5, at6, at7, past7}
use Rattle.log_language.specs.Readings.{every}
use Rattle.history.specs.Histories.{Bench, bench, called, number_of}
use Rattle.history.specs.Fits.{is_word, fits, row_fits}
use Rattle.history.proofs.Written.{goes}
use Rattle.std.specs.Prelude.{Some, None, Ok, Err}
use Rattle.queue_record.specs.declared.answered.Answered.{Answered}
use Rattle.queue_births.specs.Types.{Registered}
use Rattle.queue_questions.specs.Types.{Told}
use Rattle.queue_stages.specs.Types.{Cancelled}
use Rattle.queue_steps.specs.Types.{Completed, Popped, Retried}

-- rows that agree in every column are one
one_row : (a b : Row) → same_row a b ≡ true → a ≡ b
one_row a b h =
    let c : Columns a b = columns a b h in
    ap (λ (x : ℕ). row_of x a.token a.attempt a.outcome a.number) c.kind
    ∙ (ap (λ (x : ℕ). row_of b.kind x a.attempt a.outcome a.number) c.token
    ∙ (ap (λ (x : ℕ). row_of b.kind b.token x a.outcome a.number) c.attempt
    ∙ (ap (λ (x : ℕ). row_of b.kind b.token b.attempt x a.number) c.outcome
    ∙ ap (λ (x : ℕ). row_of b.kind b.token b.attempt b.outcome x) c.number)))

-- some call, accepted on the bench b, writes the row r
pub record Writes (b : Bench) (r : Row) : Type 0 where
  pub call : Call
  pub fine : number_of b call ≡ done
  pub left : called b call ≡ bench (after b.queue call) (b.used + 1) (written b.log b.used (flat r))
  -- of 64-bit words it has 64-bit inputs
  pub words : is_word b.queue.domain ≡ true → row_fits r ≡ true → fits call ≡ true

-- the number of a birth row is the birth's
number_fits : (k n t : ℕ) (r : Row) → row_of k t 0 0 n ≡ r → row_fits r ≡ true → every is_word (n ∷ []) ≡ true
number_fits k n t r e h =
    let h0 : every is_word (k ∷ t ∷ 0 ∷ 0 ∷ n ∷ []) ≡ true = ap row_fits e ∙ h in
    let h1 = and_right (is_word k) (every is_word (t ∷ 0 ∷ 0 ∷ n ∷ [])) h0 in
    let h2 = and_right (is_word t) (every is_word (0 ∷ 0 ∷ n ∷ [])) h1 in
    let h3 = and_right (is_word 0) (every is_word (0 ∷ n ∷ [])) h2 in
    and_right (is_word 0) (every is_word (n ∷ [])) h3

module _ (b : Bench) (w : well_formed b.queue ≡ true) (p : Put b.log b.used) (r : Row) where
  abbrev q : Queue
  q = b.queue

  -- a call writes its entry's row
  writes_by : (c : Call) {row : Row} → entry_of q c ≡ Ok (Some row) → row ≡ r → (is_word q.domain ≡ true → row_fits r ≡ true → fits c ≡ true) → Writes b r
  writes_by c {row} is same words =
      let g = goes b c p row is in
      record { call = c; words = words; fine = g.0; left = g.1 ∙ ap (λ (x : Row). bench (after q c) (b.used + 1) (written b.log b.used (flat x))) same }

  writes_register : (n t : ℕ) → (registered q n).answer ≡ Ok t → row_of 0 t 0 0 n ≡ r → Writes b r
  writes_register n t a e = writes_by (register n) (ap (birth_entry register_kind n) a) e (λ _ h. number_fits 0 n t r e h)

  writes_land : (n t : ℕ) → (landed q n).answer ≡ Ok t → row_of 1 t 0 0 n ≡ r → Writes b r
  writes_land n t a e = writes_by (land n) (ap (birth_entry land_kind n) a) e (λ _ h. number_fits 1 n t r e h)

  writes_pop : pop_fits (popped q).answer r ≡ true → Writes b r
  writes_pop h = go (popped q).answer refl h
    where
      go : (a : Popped) → (popped q).answer ≡ a → pop_fits a r ≡ true → Writes b r
      go (Ok (Some (t, n))) e k = writes_by pop (ap pop_entry e) (one_row (row_of 2 t.token t.attempt 0 0) r k) (λ _ _. refl)
      go (Ok None) e k = clash k refl
      go (Err n) e k = clash k refl

  writes_complete : r.kind ≡ 3 → is_settled_answer (completed q (row_ticket q r) r.outcome r.number).answer ≡ true → Writes b r
  writes_complete kind h = go (completed q (row_ticket q r) r.outcome r.number).answer refl h
    where
      go : (a : Completed) → (completed q (row_ticket q r) r.outcome r.number).answer ≡ a → is_settled_answer a ≡ true → Writes b r
      go (Ok tt) e k =
          writes_by (complete (row_ticket q r) r.outcome r.number) (ap (complete_entry (row_ticket q r) r.outcome r.number) e)
          (ap (λ (x : ℕ). row_of x r.token r.attempt r.outcome r.number) (sym kind)) (λ d f. pass _ d ∙ and_right (is_word r.kind) _ f)
      go (Err (m, n)) e k = clash k refl

  writes_retry : retry_fits (retried q).answer r ≡ true → Writes b r
  writes_retry h = go (retried q).answer refl h
    where
      go : (a : Retried) → (retried q).answer ≡ a → retry_fits a r ≡ true → Writes b r
      go (Ok t) e k = writes_by retry (ap retry_entry e) (one_row (row_of 4 t.token t.attempt 0 0) r k) (λ _ _. refl)
      go (Err n) e k = clash k refl

  -- a well-formed record's stage calls are answered, so their entries say whether the stage moves
  told_entry : (kind : ℕ) (was is : Phase) (b : Bool) → stage_entry kind was is (yes_or_no b) ≡ Ok (moved_row kind was is)
  told_entry kind was is true = refl
  told_entry kind was is false = refl

  admit_entry : entry_of q (admit true) ≡ Ok (moved_row admit_kind q.phase (phase_after q.phase Admit))
  unfolding admitted
  admit_entry =
      ap (λ (x : Answered Told). stage_entry admit_kind q.phase x.queue.phase x.answer) (miss _ (ap not w))
      ∙ told_entry admit_kind q.phase (phase_after q.phase Admit) (is_pending (phase_after q.phase Admit))

  end_entry : entry_of q end ≡ Ok (moved_row end_kind q.phase (phase_after q.phase End))
  unfolding ended
  end_entry =
      ap (λ (x : Answered Told). stage_entry end_kind q.phase x.queue.phase x.answer) (miss _ (ap not w))
      ∙ told_entry end_kind q.phase (phase_after q.phase End) (is_pending q.phase)

  cancel_entry_lem : entry_of q cancel ≡ Ok (moved_row cancel_kind q.phase (phase_after q.phase Cancel))
  unfolding cancelled_by
  cancel_entry_lem = ap (λ (x : Answered Cancelled). cancel_entry q.phase x.queue.phase x.answer) (miss _ (ap not w))

  moves_of : (e : Event) (k : ℕ) → r.kind ≡ k → (replayed_stage q e r).fits ≡ true → (differs q.phase (phase_after q.phase e) ≡ true) × (row_of k 0 0 0 0 ≡ r)
  moves_of e k kind h =
      let m = and_right (well_formed q) (differs q.phase (phase_after q.phase e) && same_row (row_of r.kind 0 0 0 0) r) h in (
        and_left (differs q.phase (phase_after q.phase e)) _ m,
        ap (λ (x : ℕ). row_of x 0 0 0 0) (sym kind)
            ∙ one_row (row_of r.kind 0 0 0 0) r (and_right (differs q.phase (phase_after q.phase e)) _ m),
      )

  writes_stage : (c : Call) (e : Event) (k : ℕ) → entry_of q c ≡ Ok (moved_row k q.phase (phase_after q.phase e))
      → fits c ≡ true → r.kind ≡ k → (replayed_stage q e r).fits ≡ true → Writes b r
  writes_stage c e k is words kind h = let m = moves_of e k kind h in writes_by c (is ∙ ap Ok (hit _ m.0)) m.1 (λ _ _. words)

  birth_token : (k : ℕ) (a : Registered) → r.kind ≡ k → birth_fits a r ≡ true → (t : ℕ) × (a ≡ Ok t) × (row_of k t 0 0 r.number ≡ r)
  birth_token k (Ok t) kind h = (t, refl, ap (λ (x : ℕ). row_of x t 0 0 r.number) (sym kind) ∙ one_row (row_of r.kind t 0 0 r.number) r h)
  birth_token k (Err (m, n)) kind h = clash h refl

  pub writes : (replayed q r).fits ≡ true → Writes b r
  writes h = go r.kind refl
    where
      by : (x : Replayed) → replayed q r ≡ x → x.fits ≡ true
      by x e = sym (ap (λ (y : Replayed). y.fits) e) ∙ h

      go : (n : ℕ) → r.kind ≡ n → Writes b r
      go zero e = let t = birth_token 0 (registered q r.number).answer e (by (replayed_birth (registered q r.number) r) (at0 q r e)) in writes_register r.number t.0 t.1 t.2
      go (suc zero) e = let t = birth_token 1 (landed q r.number).answer e (by (replayed_birth (landed q r.number) r) (at1 q r e)) in writes_land r.number t.0 t.1 t.2
      go (suc (suc zero)) e = writes_pop (by (replayed_pop q r) (at2 q r e))
      go (suc (suc (suc zero))) e = writes_complete e (by (replayed_complete q r) (at3 q r e))
      go (suc (suc (suc (suc zero)))) e = writes_retry (by (replayed_retry q r) (at4 q r e))
      go (suc (suc (suc (suc (suc zero))))) e = writes_stage (admit true) Admit 5 admit_entry refl e (by (replayed_stage q Admit r) (at5 q r e))
      go (suc (suc (suc (suc (suc (suc zero)))))) e = writes_stage end End 6 end_entry refl e (by (replayed_stage q End r) (at6 q r e))
      go (suc (suc (suc (suc (suc (suc (suc zero))))))) e = writes_stage cancel Cancel 7 cancel_entry_lem refl e (by (replayed_stage q Cancel r) (at7 q r e))
      go (suc (suc (suc (suc (suc (suc (suc (suc n)))))))) e = clash h (ap (λ (y : Replayed). y.fits) (past7 q r n e))

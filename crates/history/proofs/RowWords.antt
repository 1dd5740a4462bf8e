-- The row that a call with 64-bit inputs writes is five words of 64 bits
use Prim.Native.Nat.{ℕ, ◌<◌, ◌≤◌}
use mathlib.Core.Path.{◌≡◌, refl, sym, ap, ◌∙◌}
use mathlib.Core.Bool.{true}
use mathlib.Core.List.{[], ◌∷◌}
use native.Mathlib.Omega.{arith}
use borrow.Author.Tests.{le-leb}
use Rattle.choice.proofs.Ways.{pass, and_left, and_right}
use Rattle.queue_record.specs.WellFormed.{well_formed}
use Rattle.queue_record.specs.declared.record.Queue.{Queue}
use Rattle.queue_record.proofs.Fit.{fit, selected_born, selected_before}
use Rattle.queue_record.proofs.Zeros.{full_below}
use Rattle.queue_decisions.specs.Slots.{no_more}
use Rattle.queue_steps.specs.Attempts.{completed}
use Rattle.queue_stages.specs.Stages.{admitted, ended, cancelled_by}
use Rattle.cleanup_queue.specs.Runs.{Call, register, land, pop, complete, retry, admit, end, cancel}
use Rattle.cleanup_queue.proofs.ByCase.{register_by, land_by, pop_by, retry_by}
use Rattle.log_rows.specs.Rows.{row_of}
use Rattle.log_rows.specs.Kinds.{register_kind, land_kind, pop_kind, complete_kind, retry_kind, admit_kind, end_kind, cancel_kind}
use Rattle.log_births.specs.Births.{birth_entry}
use Rattle.log_attempts.specs.Attempts.{pop_entry, retry_entry}
use Rattle.log_language.specs.Readings.{every}
use Rattle.cleanup_log.specs.Entries.{entry_of}
use Rattle.history.specs.Fits.{is_word, fits, row_fits}
use Rattle.history.proofs.RowOfCall.{same_made, no_row, settled_row, told_row, cancelled_row}
use Rattle.log_entries.specs.Types.{Entry}
use Rattle.log_rows.specs.declared.Row.{Row}
use Rattle.queue_record.proofs.Refused.{err_ok}
use Rattle.std.specs.Prelude.{Some, Ok}
use Rattle.queue_record.specs.declared.answered.Answered.{Answered}
use Rattle.queue_births.specs.Types.{Registered}
use Rattle.queue_steps.specs.Types.{Popped, Retried}

word : (n : ℕ) → n ≤ no_more → is_word n ≡ true
unfolding is_word
word n l = le-leb _ _ l

-- five words make a row that fits
row_fits_lem : (a b c d e : ℕ) → is_word a ≡ true → is_word b ≡ true → is_word c ≡ true → is_word d ≡ true → is_word e ≡ true → row_fits (row_of a b c d e) ≡ true
row_fits_lem a b c d e u v w x y = pass _ u ∙ (pass _ v ∙ (pass _ w ∙ (pass _ x ∙ (pass _ y ∙ refl))))

zero_word : is_word 0 ≡ true
zero_word = word 0 (omega arith)

first_word : (n : ℕ) → every is_word (n ∷ []) ≡ true → is_word n ≡ true
first_word n h = and_left (is_word n) true h

module _ (q : Queue) (w : well_formed q ≡ true) (l : q.next ≤ no_more) where
  token_word_lem : (k : ℕ) → k < q.count → is_word k ≡ true
  token_word_lem k h = let c : q.count ≤ 64 = (fit q w).count in word k (omega arith)

  birth_fits_lem : (kind n : ℕ) → kind ≤ 7 → is_word n ≡ true → row_fits (row_of kind q.count 0 0 n) ≡ true
  birth_fits_lem kind n k h = let c : q.count ≤ 64 = (fit q w).count in row_fits_lem kind q.count 0 0 n (word kind (omega arith)) (word q.count (omega arith)) zero_word zero_word h

  ticket_fits_lem : (kind token attempt : ℕ) → kind ≤ 7 → token < q.count → attempt ≤ no_more → row_fits (row_of kind token attempt 0 0) ≡ true
  ticket_fits_lem kind token attempt k t a = row_fits_lem kind token attempt 0 0 (word kind (omega arith)) (token_word_lem token t) (word attempt a) zero_word zero_word

  stage_fits : (kind : ℕ) → kind ≤ 7 → row_fits (row_of kind 0 0 0 0) ≡ true
  stage_fits kind k = row_fits_lem kind 0 0 0 0 (word kind (omega arith)) zero_word zero_word zero_word zero_word

  abbrev Fitting : Entry → Type 0
  Fitting e = (row : Row) → e ≡ Ok (Some row) → row_fits row ≡ true

  -- an entry's row fits where the row that was made does
  made_fits : {made : Row} → row_fits made ≡ true → Fitting (Ok (Some made))
  made_fits f row h = ap row_fits (sym (same_made h)) ∙ f

  -- whichever the call: where it changes the queue, its row fits
  pub entry_fits : (c : Call) → fits c ≡ true → Fitting (entry_of q c)
  entry_fits (register n) f =
      register_by (λ (r : Answered Registered). Fitting (birth_entry register_kind n r.answer)) q n
      (λ _ _ h. err_ok h) (λ _ _ _. made_fits (birth_fits_lem register_kind n (omega arith) (first_word n f)))
  entry_fits (land n) f =
      land_by (λ (r : Answered Registered). Fitting (birth_entry land_kind n r.answer)) q n
      (λ _ _ h. err_ok h) (λ _ _ _ _. made_fits (birth_fits_lem land_kind n (omega arith) (first_word n f)))
  entry_fits pop f =
      pop_by (λ (r : Answered Popped). Fitting (pop_entry r.answer)) q
      (λ _ _ _ h. err_ok h) (λ _ h. no_row h)
      (λ p e token n full room. made_fits (ticket_fits_lem pop_kind token q.next (omega arith) (full_below q.count q.slots token (fit q w).slots full) l))
      (λ p t e full.
      let b : t.attempt < q.next = selected_before q t w e in made_fits (ticket_fits_lem pop_kind t.token t.attempt (omega arith) (selected_born q t w e) (omega arith)))
  entry_fits (complete t o k) f =
      λ row h.
      let g = and_right (is_word t.domain) _ f in
      let u = and_right (is_word t.token) _ g in
      let v = and_right (is_word t.attempt) _ u in
      ap row_fits (sym (settled_row q t o k (completed q t o k).answer row h).1)
      ∙ row_fits_lem complete_kind t.token t.attempt o k (word complete_kind (omega arith)) (and_left (is_word t.token) _ g) (and_left (is_word t.attempt) _ u)
      (and_left (is_word o) _ v) (first_word k (and_right (is_word o) _ v))
  entry_fits retry f =
      retry_by (λ (r : Answered Retried). Fitting (retry_entry r.answer)) q (λ _ _ h. err_ok h)
      (λ _ t e a. made_fits (ticket_fits_lem retry_kind t.token q.next (omega arith) (selected_born q t w e) l))
  entry_fits (admit m) f =
      λ row h.
      ap row_fits (sym (told_row q admit_kind q.phase (admitted q m).queue.phase (admitted q m).answer row h).1) ∙ stage_fits admit_kind (omega arith)
  entry_fits end f =
      λ row h.
      ap row_fits (sym (told_row q end_kind q.phase (ended q).queue.phase (ended q).answer row h).1) ∙ stage_fits end_kind (omega arith)
  entry_fits cancel f =
      λ row h.
      ap row_fits (sym (cancelled_row q q.phase (cancelled_by q).queue.phase (cancelled_by q).answer row h).1) ∙ stage_fits cancel_kind (omega arith)

-- No call of the library on sound words returns 1 for its queue
use Prim.Native.Nat.{ℕ, ◌<◌}
use mathlib.Core.Path.{◌≡◌, refl, sym, ap, ◌∙◌}
use mathlib.Core.Logic.{◌↔◌}
use mathlib.Core.Bool.{Bool, true, false, not, ◌&&◌}
use mathlib.Core.List.{List, [], ◌∷◌}
use native.Mathlib.Omega.{arith}
use borrow.Author.Tests.{eq-eqb, not-true}
use lib.Dec.{eqb}
use lib.ListN.{length}
use Rattle.choice.specs.Choice.{when◌then◌else◌}
use Rattle.choice.proofs.Ways.{hit, miss, clash, and_left, and_right}
use Rattle.queue_record.specs.declared.refusal.Refusal.{Refusal}
use Rattle.queue_record.specs.Refusals.{broken, refusal_number}
use Rattle.queue_record.specs.declared.refusal.Refusal.TheVariants.{Broken, TooManyBindings}
use Rattle.queue_record.specs.WellFormed.{well_formed}
use Rattle.queue_record.specs.Openings.{Opening, heading_of, opening_of, opened_as}
use Rattle.queue_record.specs.declared.record.Kind.TheVariants.{Scope, Iterator}
use Rattle.queue_record.proofs.OpenedLaws.{opened_refused}
use Rattle.queue_births.specs.Births.{registered, landed}
use Rattle.queue_steps.specs.Attempts.{popped, completed, retried}
use Rattle.queue_stages.specs.Stages.{admitted, ended, cancelled_by}
use Rattle.queue_questions.specs.Questions.{matches, is_empty_told, is_issued_told, is_pending_told, is_settled_told, is_cancelled_told, has_failed_told, can_retry_told, can_finish_told, domain_told}
use Rattle.cleanup_queue.specs.Orders.{Ground, due, first_due, register_order, land_order, pop_order, complete_order, retry_order, broken_only, OnlyBroken}
use Rattle.cleanup_queue.specs.Runs.{Call}
use Rattle.cleanup_queue.proofs.Numbers.{register_number, land_number, pop_number, complete_number, retry_number, admit_number, end_number, cancel_number, questions_number, domain_number}
use Rattle.log_rows.specs.Appending.{rows_fit}
use Rattle.log_reader.specs.Reader.{ReadsAs, refused_opening, bad_at, good_log}
use Rattle.cleanup_log.specs.RecordedOrders.{recorded_order}
use Rattle.cleanup_log.specs.Entries.{entry_of}
use Rattle.log_entries.specs.Noting.{changes}
use Rattle.cleanup_log.proofs.RecordedNumbers.{register_recorded_number, land_recorded_number, pop_recorded_number, complete_recorded_number}
use Rattle.cleanup_log.proofs.RecordedNumbers.{retry_recorded_number, admit_recorded_number, end_recorded_number, cancel_recorded_number}
use Rattle.queue_words.specs.Words.{word, ticket_of, queue_of, is_sound}
use Rattle.queue_words.specs.Exported.{Exported, open_number, register_on, land_on, pop_on, complete_on, retry_on, admit_on, admit_without_on, end_on, cancel_on}
use Rattle.queue_words.specs.Exported.{on_record, told_on, is_empty_on, is_issued_on, is_pending_on, is_settled_on, is_cancelled_on, has_failed_on, can_retry_on, can_finish_on, domain_on}
use Rattle.queue_words.proofs.OnWords.{sound_on, sound_encodes, sound_fits}
use Rattle.gulberzan_c.specs.ReadBack.{ReadOn, no_kind, read_back, read_said}
use Rattle.history.specs.Histories.{number_of}
use Rattle.library_laws.specs.CallWords.{WordCall}
use Rattle.library_laws.specs.Sessions.{Session, session, LibraryCall, logged_by, opening_by, session_after_all}
use Rattle.library_laws.specs.Results.{made_by, WordQuestion, words_empty, words_issued, words_pending, words_settled, words_cancelled, words_failed, words_retry, words_finish, words_domain}
use Rattle.library_laws.specs.Results.{asked_on, Returned, IsOne}
use Rattle.library_laws.proofs.Sounds.{call_of}
use Rattle.library_laws.proofs.Says.{born_tells, pop_tells, complete_tells, retry_tells, told_number, cancel_tells, domain_tells}
use Rattle.library_laws.proofs.WholeLists.{all_never, all_logged_alone}
use Rattle.library_laws.proofs.Sessions.{logged_is, from, session_sound}
use Rattle.std.specs.Prelude.{Ok, Err}
use Rattle.queue_record.specs.declared.answered.Answered.{Answered}
use Rattle.log_reader.specs.Types.{Read}
use Rattle.queue_questions.specs.Types.{Told}
use Rattle.queue_record.specs.Types.{Opened}

-- ---- an order of refusals without 1
abbrev without_one : List Ground → Bool
without_one [] = true
without_one (d ∷ ds) = not (eqb (refusal_number d.refusal) 1) && without_one ds

none_due : (ds : List Ground) → without_one ds ≡ true → first_due ds ≡ broken → ⊥
none_due [] k e = omega arith
none_due (d ∷ ds) k e = go d.case e (none_due ds (and_right (not (eqb (refusal_number d.refusal) 1)) (without_one ds) k))
  where
    go : (b : Bool) → (when b then refusal_number d.refusal else first_due ds) ≡ 1 → (first_due ds ≡ 1 → ⊥) → ⊥
    go true z rest = clash (eq-eqb (refusal_number d.refusal) 1 z) (not-true _ (and_left (not (eqb (refusal_number d.refusal) 1)) (without_one ds) k))
    go false z rest = rest z

-- the refusals behind the first
abbrev others : List Ground → List Ground
others [] = []
others (d ∷ ds) = ds

module _ (ws : List ℕ) (s : is_sound ws ≡ true) where
  -- of sound words 1 is not due, so that a call whose other refusals are not 1 never says it
  never : (rest : List Ground) → without_one rest ≡ true → {n : ℕ} → n ≡ first_due (due Broken (not (well_formed (queue_of ws))) ∷ rest) → n ≡ broken → ⊥
  never rest k h e = none_due rest k (sym (miss _ (ap not (sound_fits ws s))) ∙ (sym h ∙ e))

  -- ---- plain calls
  said : (given : ℕ) (x : Exported) → (on_record ws given x).result ≡ x.result
  said given x = ap (λ (y : Exported). y.result) (sound_on ws s given x)

  made_never : (c : WordCall) → (made_by ws c).result ≡ broken → ⊥
  unfolding register_on land_on pop_on complete_on retry_on admit_on admit_without_on end_on cancel_on
  made_never (WordCall.register n) = never (others (register_order (queue_of ws) n)) refl (said n _ ∙ ((born_tells _ (registered (queue_of ws) n).answer).number ∙ register_number (queue_of ws) n))
  made_never (WordCall.land n) = never (others (land_order (queue_of ws) n)) refl (said n _ ∙ ((born_tells _ (landed (queue_of ws) n).answer).number ∙ land_number (queue_of ws) n))
  made_never WordCall.pop = never (others (pop_order (queue_of ws))) refl (said 0 _ ∙ ((pop_tells _ (popped (queue_of ws)).answer).number ∙ pop_number (queue_of ws)))
  made_never (WordCall.complete t o k) =
      let ticket = ticket_of (word t 0) (word t 1) (word t 2) in
      never (others (complete_order (queue_of ws) ticket o k)) refl (said k _ ∙ ((complete_tells _ (completed (queue_of ws) ticket o k).answer).number ∙ complete_number (queue_of ws) ticket o k))
  made_never WordCall.retry = never (others (retry_order (queue_of ws))) refl (said 0 _ ∙ ((retry_tells _ (retried (queue_of ws)).answer).number ∙ retry_number (queue_of ws)))
  made_never (WordCall.admit t) =
      never [] refl (said 0 _ ∙ (told_number _ (admitted (queue_of ws) (matches (queue_of ws) t)).answer ∙ admit_number (queue_of ws) (matches (queue_of ws) t)))
  made_never WordCall.admit_without = never [] refl (said 0 _ ∙ (told_number _ (admitted (queue_of ws) false).answer ∙ admit_number (queue_of ws) false))
  made_never WordCall.end = never [] refl (said 0 _ ∙ (told_number _ (ended (queue_of ws)).answer ∙ end_number (queue_of ws)))
  made_never WordCall.cancel = never [] refl (said 0 _ ∙ ((cancel_tells _ (cancelled_by (queue_of ws)).answer).number ∙ cancel_number (queue_of ws)))

  -- ---- questions
  told_never : (t : Told) → OnlyBroken (queue_of ws) t → (told_on ws t).result ≡ broken → ⊥
  told_never t h = never [] refl (said 0 _ ∙ (told_number ws t ∙ h))

  asked_never : (a : WordQuestion) → (asked_on ws a).result ≡ broken → ⊥
  unfolding is_empty_on is_issued_on is_pending_on is_settled_on is_cancelled_on has_failed_on can_retry_on can_finish_on domain_on
  asked_never words_empty = told_never (is_empty_told (queue_of ws)) (questions_number (queue_of ws) []).0
  asked_never words_issued = told_never (is_issued_told (queue_of ws)) (questions_number (queue_of ws) []).1
  asked_never words_pending = told_never (is_pending_told (queue_of ws)) (questions_number (queue_of ws) []).2
  asked_never words_settled = told_never (is_settled_told (queue_of ws)) (questions_number (queue_of ws) []).3
  asked_never words_cancelled = told_never (is_cancelled_told (queue_of ws)) (questions_number (queue_of ws) []).4
  asked_never words_failed = told_never (has_failed_told (queue_of ws)) (questions_number (queue_of ws) []).5
  asked_never words_retry = told_never (can_retry_told (queue_of ws)) (questions_number (queue_of ws) []).6
  asked_never (words_finish target) = told_never (can_finish_told (queue_of ws) target) (questions_number (queue_of ws) target).7
  asked_never words_domain = never [] refl (said 0 _ ∙ ((domain_tells ws (domain_told (queue_of ws))).number ∙ domain_number (queue_of ws)))

  -- ---- recorded calls
  module _ (log : List ℕ) (used : ℕ) where
    abbrev Unfit : ℕ → Type 0
    Unfit n = (n ≡ broken) ↔ (rows_fit (length log) used ≡ false)

    -- behind the log's own 1 come the queue's refusals, and then 17: 1 exactly where the used rows do not fit the log
    fit_alone : (rest : List Ground) → without_one rest ≡ true → {n : ℕ}
        → n ≡ first_due (due Broken (not (rows_fit (length log) used)) ∷ due Broken (not (well_formed (queue_of ws))) ∷ rest) → Unfit n
    fit_alone rest k {n} h = (only (rows_fit (length log) used) refl, λ f. h ∙ hit _ (ap not f))
      where
        only : (b : Bool) → rows_fit (length log) used ≡ b → n ≡ broken → rows_fit (length log) used ≡ false
        only true f e = absurd (never rest k (h ∙ miss _ (ap not f)) e)
        only false f e = f

    -- the order of the recorded call whose own refusals these are, without its two tests for 1
    abbrev behind : List Ground → Call → List Ground
    behind own c = others (others (recorded_order (length log) used own (changes (entry_of (queue_of ws) c))))

    numbered : (c : WordCall) → (logged_by (session ws log used) c).call.result ≡ number_of (from ws (sound_encodes ws s) log used) (call_of ws c)
    numbered c = (logged_is ws (sound_encodes ws s) log used c).3

    logged_alone : (c : WordCall) → Unfit (logged_by (session ws log used) c).call.result
    logged_alone (WordCall.register n) =
        fit_alone (behind (register_order (queue_of ws) n) (Call.register n)) refl (numbered (WordCall.register n) ∙ register_recorded_number (queue_of ws) log used n)
    logged_alone (WordCall.land n) = fit_alone (behind (land_order (queue_of ws) n) (Call.land n)) refl (numbered (WordCall.land n) ∙ land_recorded_number (queue_of ws) log used n)
    logged_alone WordCall.pop = fit_alone (behind (pop_order (queue_of ws)) Call.pop) refl (numbered WordCall.pop ∙ pop_recorded_number (queue_of ws) log used)
    logged_alone (WordCall.complete t o k) =
        let ticket = ticket_of (word t 0) (word t 1) (word t 2) in
        fit_alone (behind (complete_order (queue_of ws) ticket o k) (Call.complete ticket o k)) refl
        (numbered (WordCall.complete t o k) ∙ complete_recorded_number (queue_of ws) log used ticket o k)
    logged_alone WordCall.retry = fit_alone (behind (retry_order (queue_of ws)) Call.retry) refl (numbered WordCall.retry ∙ retry_recorded_number (queue_of ws) log used)
    logged_alone (WordCall.admit t) =
        fit_alone (behind (broken_only (queue_of ws)) (Call.admit (matches (queue_of ws) t))) refl
        (numbered (WordCall.admit t) ∙ admit_recorded_number (queue_of ws) log used (matches (queue_of ws) t))
    logged_alone WordCall.admit_without =
        fit_alone (behind (broken_only (queue_of ws)) (Call.admit false)) refl (numbered WordCall.admit_without ∙ admit_recorded_number (queue_of ws) log used false)
    logged_alone WordCall.end = fit_alone (behind (broken_only (queue_of ws)) Call.end) refl (numbered WordCall.end ∙ end_recorded_number (queue_of ws) log used)
    logged_alone WordCall.cancel = fit_alone (behind (broken_only (queue_of ws)) Call.cancel) refl (numbered WordCall.cancel ∙ cancel_recorded_number (queue_of ws) log used)

-- ---- openings and the reader
-- an opening is refused with 14 alone
open_never : (o : Opening) → open_number (opened_as o).answer ≡ broken → ⊥
open_never o = go (opened_as o).answer (λ n e. (opened_refused n o e).0)
  where
    go : (a : Opened) → ((n : Refusal) → a ≡ Err n → n ≡ TooManyBindings) → open_number a ≡ broken → ⊥
    go (Ok tt) f e = omega arith
    go (Err n) f e = let y : refusal_number n ≡ 14 = ap refusal_number (f n refl) in omega arith

-- and the reader with that, or with 16
read_never : (o : Opening) (log : List ℕ) (r : Answered Read) (ws : List ℕ) → ReadsAs o log r → (read_said r.answer ws).result ≡ broken → ⊥
read_never o log r ws (refused_opening {n} h) e = let y : refusal_number n ≡ 14 = ap refusal_number (opened_refused n o h).0 in omega arith
read_never o log r ws (bad_at place h b) e = let z : ◌≡◌ {A = ℕ} 16 1 = e in omega arith
read_never o log r ws (good_log h b) e = omega arith

read_alone : (ws : List ℕ) (kind domain first : ℕ) (bindings log : List ℕ) (x : Exported) → ReadOn ws kind domain first bindings log x → (x.result ≡ broken) ↔ (1 < kind)
read_alone ws kind domain first bindings log x (no_kind l) = (λ _. l, λ _. refl)
read_alone ws kind domain first bindings log x (read_back r l a) = (λ e. absurd (read_never (opening_by kind domain first bindings) log r _ a e), λ m. absurd (omega arith))

-- ---- any call
one_exactly : (s : Session) → is_sound s.words ≡ true → (c : LibraryCall) (n : ℕ) → Returned s c n → (n ≡ broken) ↔ IsOne s c
one_exactly s h (LibraryCall.opens_scope domain first) n r = (λ e. open_never (opening_of (heading_of Scope domain first) []) (sym r.1.number ∙ e), λ z. absurd z)
one_exactly s h (LibraryCall.opens_iterator domain first bindings) n r = (λ e. open_never (opening_of (heading_of Iterator domain first) bindings) (sym r.1.number ∙ e), λ z. absurd z)
one_exactly s h (LibraryCall.makes c) n r = (λ e. made_never s.words h c (sym r ∙ e), λ z. absurd z)
one_exactly s h (LibraryCall.registers_all ns) n r = (λ e. all_never s.words ns h (sym r ∙ e), λ z. absurd z)
one_exactly s h (LibraryCall.records c) n r = let v = logged_alone s.words h s.log s.used c in (λ e. v.0 (sym r ∙ e), λ f. r ∙ v.1 f)
one_exactly s h (LibraryCall.records_all ns) n r = let v = all_logged_alone s ns h in (λ e. v.0 (sym r ∙ e), λ f. r ∙ v.1 f)
one_exactly s h (LibraryCall.reads kind domain first bindings log) n r =
    let v = read_alone s.words kind domain first bindings log r.0 r.1 in
    (λ e. v.0 (sym r.2 ∙ e), λ f. r.2 ∙ v.1 f)

-- and so in any session from sound words on
pub never_one_lem : (s : Session) → is_sound s.words ≡ true → (cs : List LibraryCall) (c : LibraryCall) (n : ℕ) → Returned (session_after_all s cs) c n
    → (n ≡ broken) ↔ IsOne (session_after_all s cs) c
never_one_lem s h cs = one_exactly (session_after_all s cs) (session_sound s h cs)

pub never_one_asked_lem : (s : Session) → is_sound s.words ≡ true → (cs : List LibraryCall) (a : WordQuestion) → (asked_on (session_after_all s cs).words a).result ≡ broken → ⊥
never_one_asked_lem s h cs = asked_never (session_after_all s cs).words (session_sound s h cs)

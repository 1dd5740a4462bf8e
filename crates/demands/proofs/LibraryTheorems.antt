-- The library's part of the demands, call by call and question by question
use Prim.Native.Nat.{ℕ, ◌≤◌}
use mathlib.Core.Path.{◌≡◌, refl, sym, ap, ◌∙◌}
use mathlib.Core.Logic.{◌↔◌}
use mathlib.Core.Bool.{Bool, true, false, not, ◌&&◌}
use mathlib.Core.List.{List, []}
use native.Mathlib.Omega.{arith}
use Rattle.choice.proofs.Ways.{hit, pass, and_left, and_right}
use Rattle.queue_record.specs.Record.{Sized}
use Rattle.queue_record.specs.Refusals.{done, broken}
use Rattle.queue_record.specs.WellFormed.{well_formed}
use Rattle.queue_record.specs.Openings.{Opening, scope_opened, iterator_opened, opened_as}
use Rattle.queue_record.specs.declared.record.Queue.{Queue}
use Rattle.queue_questions.specs.Questions.{matches}
use Rattle.cleanup_queue.specs.Answers.{says, opened_says}
use Rattle.cleanup_queue.specs.Orders.{RefusedAs}
use Rattle.queue_words.specs.InPlace.{sound_number}
use Rattle.queue_words.specs.Words.{queue_of, words_of, encodes, is_sound}
use Rattle.queue_words.specs.Exported.{Exported, open_number, OpensOn, register_on, land_on, pop_on, complete_on, retry_on, admit_on, admit_without_on, end_on, cancel_on}
use Rattle.queue_words.specs.Exported.{is_empty_on, is_issued_on, is_pending_on, is_settled_on, is_cancelled_on, has_failed_on, can_retry_on, can_finish_on, domain_on}
use Rattle.queue_words.proofs.RoundTrip.{encoded, words_again, queue_again, words_encode, queue_sized}
use Rattle.gulberzan_c.specs.Recorded.{recorded_on, register_recorded_on, land_recorded_on, pop_recorded_on, complete_recorded_on, retry_recorded_on}
use Rattle.gulberzan_c.specs.Recorded.{admit_recorded_on, admit_without_recorded_on, end_recorded_on, cancel_recorded_on}
use Rattle.history.specs.Histories.{called}
use Rattle.history.specs.Benches.{BenchCall, call_on}
use Rattle.library_laws.specs.CallWords.{WordCall, words_after}
use Rattle.library_laws.specs.Sessions.{Session, session, logged_by, LibraryCall, session_after}
use Rattle.library_laws.specs.Results.{made_by, asked_on, WordQuestion, words_empty, words_issued, words_pending, words_settled, words_cancelled, words_failed, words_retry, words_finish, words_domain}
use Rattle.library_laws.specs.Values.{written_as}
use Rattle.library_laws.proofs.Says.{opening_tells}
use Rattle.library_laws.proofs.OneAnswer.{read_on_some}
use Rattle.library_laws.proofs.Sessions.{read_steps}
use Rattle.library_laws.proofs.AsCalls.{register_as, land_as, pop_as, complete_as, retry_as, admit_as, end_as, cancel_as, questions_as, domain_as}
use Rattle.library_laws.proofs.AsCalls.{register_logged, land_logged, pop_logged, complete_logged, retry_logged, admit_logged, end_logged, cancel_logged}
use Rattle.demands.specs.CallTables.{said_by, given_to, left_by, told_to}
use Rattle.demands.specs.RecordedTables.{said_recorded}
use Rattle.demands.specs.LibraryTables.{bench_of, form_of, question_of, form_asked, bench_in, logged_as, LeavesSession}

-- ---- on words that encode a record
pub as_the_call_lem : (ws : List ℕ) (c : WordCall) → encodes ws ≡ true → made_by ws c ≡ written_as (form_of c) (said_by (queue_of ws) (bench_of c)) (words_of (left_by (queue_of ws) (bench_of c)))
unfolding admit_on admit_without_on
as_the_call_lem ws (WordCall.register n) e = register_as ws e n
as_the_call_lem ws (WordCall.land n) e = land_as ws e n
as_the_call_lem ws WordCall.pop e = pop_as ws e
as_the_call_lem ws (WordCall.complete t o k) e = complete_as ws e t o k
as_the_call_lem ws WordCall.retry e = retry_as ws e
as_the_call_lem ws (WordCall.admit target) e = admit_as ws e (matches (queue_of ws) target)
as_the_call_lem ws WordCall.admit_without e = admit_as ws e false
as_the_call_lem ws WordCall.end e = end_as ws e
as_the_call_lem ws WordCall.cancel e = cancel_as ws e

pub asked_as_the_call_lem : (ws : List ℕ) (a : WordQuestion) → encodes ws ≡ true → asked_on ws a ≡ written_as (form_asked a) (told_to (queue_of ws) (question_of a)) ws
asked_as_the_call_lem ws words_empty e = (questions_as ws e []).0
asked_as_the_call_lem ws words_issued e = (questions_as ws e []).1
asked_as_the_call_lem ws words_pending e = (questions_as ws e []).2
asked_as_the_call_lem ws words_settled e = (questions_as ws e []).3
asked_as_the_call_lem ws words_cancelled e = (questions_as ws e []).4
asked_as_the_call_lem ws words_failed e = (questions_as ws e []).5
asked_as_the_call_lem ws words_retry e = (questions_as ws e []).6
asked_as_the_call_lem ws (words_finish target) e = (questions_as ws e target).7
asked_as_the_call_lem ws words_domain e = domain_as ws e

pub recorded_as_the_call_lem : (s : Session) (c : WordCall) → encodes s.words ≡ true
    → logged_by s c ≡ logged_as (form_of c) (said_recorded (bench_in s) (bench_of c)) (called (bench_in s) (call_on (queue_of s.words) (bench_of c)))
unfolding admit_recorded_on admit_without_recorded_on
recorded_as_the_call_lem s (WordCall.register n) e = register_logged s.words e s.log s.used n
recorded_as_the_call_lem s (WordCall.land n) e = land_logged s.words e s.log s.used n
recorded_as_the_call_lem s WordCall.pop e = pop_logged s.words e s.log s.used
recorded_as_the_call_lem s (WordCall.complete t o k) e = complete_logged s.words e s.log s.used t o k
recorded_as_the_call_lem s WordCall.retry e = retry_logged s.words e s.log s.used
recorded_as_the_call_lem s (WordCall.admit target) e = admit_logged s.words e s.log s.used (matches (queue_of s.words) target)
recorded_as_the_call_lem s WordCall.admit_without e = admit_logged s.words e s.log s.used false
recorded_as_the_call_lem s WordCall.end e = end_logged s.words e s.log s.used
recorded_as_the_call_lem s WordCall.cancel e = cancel_logged s.words e s.log s.used

-- ---- on others
none_made : (ws : List ℕ) → encodes ws ≡ false → (c : WordCall) → made_by ws c ≡ written_as (form_of c) (says broken (given_to (bench_of c))) ws
unfolding register_on land_on pop_on complete_on retry_on admit_on admit_without_on end_on cancel_on
none_made ws e (WordCall.register n) = hit _ (ap not e)
none_made ws e (WordCall.land n) = hit _ (ap not e)
none_made ws e WordCall.pop = hit _ (ap not e)
none_made ws e (WordCall.complete t o k) = hit _ (ap not e)
none_made ws e WordCall.retry = hit _ (ap not e)
none_made ws e (WordCall.admit target) = hit _ (ap not e)
none_made ws e WordCall.admit_without = hit _ (ap not e)
none_made ws e WordCall.end = hit _ (ap not e)
none_made ws e WordCall.cancel = hit _ (ap not e)

none_asked : (ws : List ℕ) → encodes ws ≡ false → (a : WordQuestion) → asked_on ws a ≡ written_as (form_asked a) (says broken []) ws
unfolding is_empty_on is_issued_on is_pending_on is_settled_on is_cancelled_on has_failed_on can_retry_on can_finish_on domain_on
none_asked ws e words_empty = hit _ (ap not e)
none_asked ws e words_issued = hit _ (ap not e)
none_asked ws e words_pending = hit _ (ap not e)
none_asked ws e words_settled = hit _ (ap not e)
none_asked ws e words_cancelled = hit _ (ap not e)
none_asked ws e words_failed = hit _ (ap not e)
none_asked ws e words_retry = hit _ (ap not e)
none_asked ws e (words_finish target) = hit _ (ap not e)
none_asked ws e words_domain = hit _ (ap not e)

pub no_record_lem : (ws : List ℕ) → encodes ws ≡ false → ((c : WordCall) → made_by ws c ≡ written_as (form_of c) (says broken (given_to (bench_of c))) ws)
    × ((a : WordQuestion) → asked_on ws a ≡ written_as (form_asked a) (says broken []) ws)
no_record_lem ws e = (none_made ws e, none_asked ws e)

pub no_record_logged_lem : (s : Session) (c : WordCall) → encodes s.words ≡ false
    → logged_by s c ≡ recorded_on (written_as (form_of c) (says broken (given_to (bench_of c))) s.words) s.log s.used
unfolding register_recorded_on land_recorded_on pop_recorded_on complete_recorded_on retry_recorded_on admit_recorded_on admit_without_recorded_on end_recorded_on cancel_recorded_on
no_record_logged_lem s (WordCall.register n) e = hit _ (ap not e)
no_record_logged_lem s (WordCall.land n) e = hit _ (ap not e)
no_record_logged_lem s WordCall.pop e = hit _ (ap not e)
no_record_logged_lem s (WordCall.complete t o k) e = hit _ (ap not e)
no_record_logged_lem s WordCall.retry e = hit _ (ap not e)
no_record_logged_lem s (WordCall.admit target) e = hit _ (ap not e)
no_record_logged_lem s WordCall.admit_without e = hit _ (ap not e)
no_record_logged_lem s WordCall.end e = hit _ (ap not e)
no_record_logged_lem s WordCall.cancel e = hit _ (ap not e)

-- ---- a refused call leaves the words; unchanged: what the page says of the queue's own calls
pub made_refused : ((q : Queue) (c : BenchCall) → RefusedAs q (given_to c) (said_by q c) (left_by q c))
    → (ws : List ℕ) (c : WordCall) → ((made_by ws c).result ≡ done → ⊥) → (made_by ws c).words ≡ ws
made_refused unchanged ws c z = by (encodes ws) refl
  where
    by : (b : Bool) → encodes ws ≡ b → (made_by ws c).words ≡ ws
    by true e =
        let m = as_the_call_lem ws c e in
        ap (λ (x : Exported). x.words) m
        ∙ (ap words_of (unchanged (queue_of ws) (bench_of c) (λ n. z (ap (λ (x : Exported). x.result) m ∙ n))).1 ∙ words_again ws e)
    by false e = ap (λ (x : Exported). x.words) (none_made ws e c)

-- ---- which words are a record's
pub words_are_records_lem : ((q : Queue) → Sized q → (encodes (words_of q) ≡ true) × (queue_of (words_of q) ≡ q))
    × ((ws : List ℕ) → encodes ws ≡ true → (words_of (queue_of ws) ≡ ws) × Sized (queue_of ws))
words_are_records_lem = (λ q z. (words_encode q z, queue_again q z), λ ws e. (words_again ws e, queue_sized ws (encoded ws e).long))

pub sound_told_lem : (ws : List ℕ) → ((sound_number (is_sound ws) ≡ 1) ↔ ((encodes ws ≡ true) × (well_formed (queue_of ws) ≡ true))) × (sound_number (is_sound ws) ≤ 1)
unfolding is_sound
sound_told_lem ws = (
  (
    λ h. let y = yes (encodes ws && well_formed (queue_of ws)) h in (and_left (encodes ws) (well_formed (queue_of ws)) y, and_right (encodes ws) (well_formed (queue_of ws)) y),
    λ p. ap sound_number (pass (well_formed (queue_of ws)) p.0 ∙ p.1),
  ),
  small (encodes ws && well_formed (queue_of ws)),
)
  where
    yes : (b : Bool) → sound_number b ≡ 1 → b ≡ true
    yes true h = refl
    yes false h = absurd (omega arith)

    small : (b : Bool) → sound_number b ≤ 1
    small true = omega arith
    small false = omega arith

-- ---- openings
pub opens_as_the_call_lem : (o : Opening) (n : ℕ) (words : List ℕ) → OpensOn (opened_as o) n words
    ↔ ((n ≡ (opened_says (opened_as o).answer).number) × (words ≡ words_of (opened_as o).queue))
opens_as_the_call_lem o n words = (
  λ h. (h.number ∙ opening_tells (opened_as o).answer, h.left),
  λ p. record { number = p.0 ∙ sym (opening_tells (opened_as o).answer); left = p.1 },
)

-- ---- the steps of a session
after_made : (ws : List ℕ) (c : WordCall) → words_after ws c ≡ (made_by ws c).words
after_made ws (WordCall.register n) = refl
after_made ws (WordCall.land n) = refl
after_made ws WordCall.pop = refl
after_made ws (WordCall.complete t o k) = refl
after_made ws WordCall.retry = refl
after_made ws (WordCall.admit target) = refl
after_made ws WordCall.admit_without = refl
after_made ws WordCall.end = refl
after_made ws WordCall.cancel = refl

pub session_steps_lem : (s : Session) (c : LibraryCall) (t : Session) → LeavesSession s c t ↔ (t ≡ session_after s c)
session_steps_lem s (LibraryCall.opens_scope domain first) t = (
  λ h. h.3 ∙ ap (λ (ws : List ℕ). session ws s.log s.used) h.2.left,
  λ e. (open_number (scope_opened domain first).answer, words_of (scope_opened domain first).queue, record { number = refl; left = refl }, e),
)
session_steps_lem s (LibraryCall.opens_iterator domain first bindings) t = (
  λ h. h.3 ∙ ap (λ (ws : List ℕ). session ws s.log s.used) h.2.left,
  λ e. (open_number (iterator_opened domain first bindings).answer, words_of (iterator_opened domain first bindings).queue, record { number = refl; left = refl }, e),
)
session_steps_lem s (LibraryCall.makes c) t =
    let m = ap (λ (ws : List ℕ). session ws s.log s.used) (after_made s.words c) in
    (λ h. h ∙ sym m, λ e. e ∙ m)
session_steps_lem s (LibraryCall.registers_all ns) t = (λ h. h, λ e. e)
session_steps_lem s (LibraryCall.records c) t = (λ h. h, λ e. e)
session_steps_lem s (LibraryCall.records_all ns) t = (λ h. h, λ e. e)
session_steps_lem s (LibraryCall.reads kind domain first bindings log) t = (
  λ h. h.2 ∙ read_steps s kind domain first bindings log h.0 h.1,
  λ e. let x = read_on_some s.words kind domain first bindings log in (x.0, x.1, e ∙ sym (read_steps s kind domain first bindings log x.0 x.1)),
)

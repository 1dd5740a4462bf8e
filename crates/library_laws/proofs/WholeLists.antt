-- A whole list for C: on words that encode a record it is the queue's call, on others it says 1; sound words stay sound
use Prim.Native.Nat.{ℕ, ◌+◌}
use mathlib.Core.Path.{◌≡◌, refl, sym, ap, ◌∙◌, subst}
use mathlib.Core.Logic.{◌↔◌}
use mathlib.Core.Bool.{Bool, true, false, not}
use mathlib.Core.List.{List, [], ◌∷◌}
use native.Mathlib.Omega.{arith}
use lib.Dec.{eqb, leb, ltb}
use lib.ListN.{length, take}
use Rattle.choice.proofs.Ways.{hit, miss, if_by}
use Rattle.queue_record.specs.Record.{Sized}
use Rattle.queue_record.specs.Refusals.{done, broken, result_number}
use Rattle.queue_record.specs.declared.refusal.Refusal.{Refusal}
use Rattle.std.specs.Prelude.{Option, Some, None, is_none}
use Rattle.choice.specs.Choice.{when◌then◌else◌}
use Rattle.queue_record.specs.WellFormed.{well_formed}
use Rattle.queue_record.specs.declared.record.Queue.{Queue}
use Rattle.queue_decisions.specs.Births.{register_refusal}
use Rattle.queue_decisions.specs.Sequences.{taken_of, refusal_of}
use Rattle.queue_births.specs.Sequences.{registered_all}
use Rattle.queue_births.specs.declared.sequences.RegisteredAll.{RegisteredAll}
use Rattle.queue_births.proofs.SequenceLaws.{all_decided}
use Rattle.cleanup_queue.specs.Answers.{says}
use Rattle.cleanup_queue.specs.Runs.{Call, after_all}
use Rattle.cleanup_queue.specs.WholeLists.{registered_all_says, registers_of}
use Rattle.cleanup_queue.proofs.Keeps.{run_keeps}
use Rattle.cleanup_queue.proofs.Sizes.{run_sized}
use Rattle.cleanup_queue.proofs.ListLaws.{all_separate, all_none}
use Rattle.log_rows.specs.Appending.{rows_fit, free_rows}
use Rattle.log_entries.specs.Keeping.{Kept}
use Rattle.log_births.proofs.SequenceLaws.{decided_of, all_recorded}
use Rattle.queue_words.specs.Layout.{at_value}
use Rattle.queue_words.specs.Words.{word, queue_of, words_of, encodes, is_sound}
use Rattle.queue_words.specs.Exported.{Exported, exported, born_all_case, born_all_said, register_all_on}
use Rattle.queue_words.proofs.RoundTrip.{words_again, queue_sized}
use Rattle.queue_words.proofs.OnWords.{record_sound, sound_encodes, sound_fits, sound_length}
use Rattle.gulberzan_c.specs.Recorded.{Recorded, recorded_on, register_all_recorded_on}
use Rattle.history.specs.Histories.{Bench, bench}
use Rattle.history.specs.ListedHistories.{list_recorded, listed_to, list_answer}
use Rattle.history.proofs.ListMade.{list_queue, list_none, list_number_lem}
use Rattle.library_laws.specs.Sessions.{Session, session, logged_all, logged_to}
use Rattle.library_laws.specs.Values.{plain_words, written_as}
use Rattle.library_laws.proofs.AsCalls.{refused_case, kept_written}
use Rattle.queue_record.specs.declared.answered.Answered.{Answered}

-- a whole list's answer as it is written
case_is : (r : Option Refusal) → born_all_case r ≡ (when eqb (result_number r) done then 1 else 0)
case_is None = refl
case_is (Some n) = refused_case n

all_written : (a : RegisteredAll) (ws : List ℕ) → born_all_said a ws ≡ written_as plain_words (registered_all_says a) ws
all_written a ws = ap (λ (k : ℕ). exported (result_number a.refusal) (k ∷ a.taken ∷ 0 ∷ 0 ∷ 0 ∷ []) ws) (case_is a.refusal)

-- ---- plain
module _ (ws ns : List ℕ) where
  abbrev took : Answered RegisteredAll
  took = registered_all (queue_of ws) ns

  pub all_as_the_call : encodes ws ≡ true → register_all_on ws ns ≡ written_as plain_words (registered_all_says took.answer) (words_of took.queue)
  unfolding register_all_on
  all_as_the_call e = miss _ (ap not e) ∙ all_written took.answer (words_of took.queue)

  pub all_no_record : encodes ws ≡ false → register_all_on ws ns ≡ written_as plain_words (says broken (0 ∷ [])) ws
  unfolding register_all_on
  all_no_record e = hit _ (ap not e)

  -- none taken: the words stay
  pub all_none_words : word (register_all_on ws ns).answer at_value ≡ 0 → (register_all_on ws ns).words ≡ ws
  all_none_words z = by (encodes ws) refl
    where
      by : (b : Bool) → encodes ws ≡ b → (register_all_on ws ns).words ≡ ws
      by false e = ap (λ (x : Exported). x.words) (all_no_record e)
      by true e =
          let c = all_as_the_call e in
          ap (λ (x : Exported). x.words) c
          ∙ (ap words_of (all_none (queue_of ws) ns (sym (ap (λ (x : Exported). word x.answer at_value) c) ∙ z)) ∙ words_again ws e)

-- ---- recorded
-- the session that a bench is
abbrev pub session_of : Bench → Session
session_of b = session (words_of b.queue) b.log b.used

module _ (s : Session) (ns : List ℕ) where
  -- the bench that the session's words are
  abbrev at : Bench
  at = bench (queue_of s.words) s.used s.log

  pub all_logged_as_the_call : encodes s.words ≡ true → logged_all s ns ≡ kept_written plain_words registered_all_says (list_recorded at ns)
  unfolding register_all_recorded_on
  all_logged_as_the_call e =
      let k = list_recorded at ns in
      miss _ (ap not e) ∙ ap (λ (x : Exported). recorded_on x k.log k.used) (all_written k.answer (words_of k.queue))

  pub all_no_record_logged : encodes s.words ≡ false → logged_all s ns ≡ recorded_on (written_as plain_words (says broken (0 ∷ [])) s.words) s.log s.used
  unfolding register_all_recorded_on
  all_no_record_logged e = hit _ (ap not e)

  pub all_logged_to : encodes s.words ≡ true → logged_to (logged_all s ns) ≡ session_of (listed_to at ns)
  all_logged_to e = ap logged_to (all_logged_as_the_call e)

  -- none taken: words, log and used rows stay
  pub all_none_logged : word (logged_all s ns).call.answer at_value ≡ 0 → logged_to (logged_all s ns) ≡ s
  all_none_logged z = by (encodes s.words) refl
    where
      by : (b : Bool) → encodes s.words ≡ b → logged_to (logged_all s ns) ≡ s
      by false e = ap logged_to (all_no_record_logged e)
      by true e =
          let t : (list_answer at ns).taken ≡ 0 = sym (ap (λ (r : Recorded). word r.call.answer at_value) (all_logged_as_the_call e)) ∙ z in
          all_logged_to e ∙ (ap session_of (list_none at ns t) ∙ ap (λ (ws : List ℕ). session ws s.log s.used) (words_again s.words e))

-- ---- sound words stay sound
-- of a well-formed record of whole arrays the registers of any numbers leave one
abbrev Whole : Queue → Type 0
Whole q = (well_formed q ≡ true) × Sized q

run_whole : (q : Queue) (cs : List Call) → Whole q → Whole (after_all q cs)
run_whole q cs h = (run_keeps q cs h.0, run_sized q cs h.1)

all_whole : (q : Queue) (ns : List ℕ) → Whole q → Whole (registered_all q ns).queue
all_whole q ns h = subst Whole (sym (all_separate q ns)) (run_whole q (registers_of (take (registered_all q ns).answer.taken ns)) h)

list_whole : (b : Bench) (ns : List ℕ) → Whole b.queue → Whole (listed_to b ns).queue
list_whole b ns h = subst Whole (sym (list_queue b ns)) (run_whole b.queue (registers_of (take (list_answer b ns).taken ns)) h)

sound_whole : (ws : List ℕ) → is_sound ws ≡ true → Whole (queue_of ws)
sound_whole ws s = (sound_fits ws s, queue_sized ws (sound_length ws s))

pub all_sound : (ws ns : List ℕ) → is_sound ws ≡ true → is_sound (register_all_on ws ns).words ≡ true
all_sound ws ns s =
    let f = all_whole (queue_of ws) ns (sound_whole ws s) in
    ap (λ (x : Exported). is_sound x.words) (all_as_the_call ws ns (sound_encodes ws s)) ∙ record_sound _ f.1 f.0

pub all_logged_sound : (s : Session) (ns : List ℕ) → is_sound s.words ≡ true → is_sound (logged_all s ns).call.words ≡ true
all_logged_sound s ns h =
    let f = list_whole (at s ns) ns (sound_whole s.words h) in
    ap (λ (r : Recorded). is_sound r.call.words) (all_logged_as_the_call s ns (sound_encodes s.words h)) ∙ record_sound _ f.1 f.0

-- ---- of sound words 1 is said for the used rows alone
-- what refuses one number of a list is 2 or 3
first_apart : (n count : ℕ) → result_number (register_refusal n count) ≡ broken → ⊥
unfolding register_refusal
first_apart n count =
    if_by (λ (k : Option Refusal). result_number k ≡ broken → ⊥) (eqb n 0) _ _ (λ _ e. let z : ◌≡◌ {A = ℕ} 2 1 = e in omega arith)
    (λ _. if_by (λ (k : Option Refusal). result_number k ≡ broken → ⊥) (leb 64 count) _ _
    (λ _ e. let z : ◌≡◌ {A = ℕ} 3 1 = e in omega arith) (λ _ e. let z : ◌≡◌ {A = ℕ} 0 1 = e in omega arith))

refusal_apart : (ns : List ℕ) (count : ℕ) → result_number (refusal_of ns count) ≡ broken → ⊥
unfolding refusal_of
refusal_apart [] count = λ e. let z : ◌≡◌ {A = ℕ} 0 1 = e in omega arith
refusal_apart (n ∷ ns) count =
    if_by (λ (k : Option Refusal). result_number k ≡ broken → ⊥) (is_none (register_refusal n count)) _ _ (λ _. refusal_apart ns (count + 1)) (λ _. first_apart n count)

pub all_never : (ws ns : List ℕ) → is_sound ws ≡ true → (register_all_on ws ns).result ≡ broken → ⊥
all_never ws ns s e =
    let q = queue_of ws in
    let said : (register_all_on ws ns).result ≡ result_number (registered_all q ns).answer.refusal = ap (λ (x : Exported). x.result) (all_as_the_call ws ns (sound_encodes ws s)) in
    refusal_apart ns q.count (sym (said ∙ ap (λ (r : Answered RegisteredAll). result_number r.answer.refusal) (all_decided q ns (sound_fits ws s))) ∙ e)

decided_apart : (words used : ℕ) (ns : List ℕ) (count : ℕ) → result_number (decided_of words used ns count).refusal ≡ broken → ⊥
decided_apart words used ns count =
    if_by (λ (r : RegisteredAll). result_number r.refusal ≡ broken → ⊥) (ltb (free_rows words used) (taken_of ns count)) _ _ (λ _ e. let z : ◌≡◌ {A = ℕ} 17 1 = e in omega arith)
    (λ _. refusal_apart ns count)

pub all_logged_alone : (s : Session) (ns : List ℕ) → is_sound s.words ≡ true → ((logged_all s ns).call.result ≡ broken) ↔ (rows_fit (length s.log) s.used ≡ false)
all_logged_alone s ns h = (only (rows_fit (length s.log) s.used) refl, λ f. said ∙ (list_number_lem b ns ∙ hit _ (ap not f)))
  where
    b : Bench
    b = at s ns

    said : (logged_all s ns).call.result ≡ result_number (list_answer b ns).refusal
    said = ap (λ (r : Recorded). r.call.result) (all_logged_as_the_call s ns (sound_encodes s.words h))

    only : (f : Bool) → rows_fit (length s.log) s.used ≡ f → (logged_all s ns).call.result ≡ broken → rows_fit (length s.log) s.used ≡ false
    only false f e = f
    only true f e =
        let d = all_recorded b.queue ns b.log b.used (sound_fits s.words h) f in
        absurd (decided_apart (length b.log) b.used ns b.queue.count (sym (ap (λ (k : Kept RegisteredAll). result_number k.answer.refusal) d) ∙ (sym said ∙ e)))

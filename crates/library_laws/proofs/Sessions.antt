-- A bench that only calls the library keeps a sound queue, and what its recorded calls left is read back to the very same words
use Prim.Native.Nat.{ℕ, ◌*◌, ◌≤◌}
use mathlib.Core.Path.{◌≡◌, refl, sym, ap, ◌∙◌, subst}
use mathlib.Core.Bool.{Bool, true, false, not}
use mathlib.Core.List.{List, [], ◌∷◌}
use native.Mathlib.Omega.{arith}
use borrow.Author.Tests.{eqb-true, eqb-false, lt-ltb, le-ltb}
use lib.Dec.{eqb, ltb}
use lib.ListN.{take}
use Rattle.choice.proofs.Ways.{hit, miss, if_by}
use Rattle.queue_record.specs.Record.{Sized}
use Rattle.queue_record.specs.Refusals.{done}
use Rattle.queue_record.specs.WellFormed.{well_formed}
use Rattle.queue_record.specs.Openings.{Opening, opened_as}
use Rattle.queue_record.specs.declared.record.Queue.{Queue}
use Rattle.queue_record.proofs.OpenedLaws.{opened_well_formed, opened_sized, opened_refused}
use Rattle.queue_questions.specs.Questions.{matches}
use Rattle.cleanup_queue.specs.Answers.{Said, registered_says, popped_says, completed_says, retried_says, told_says, cancelled_says}
use Rattle.cleanup_queue.specs.Runs.{Call}
use Rattle.cleanup_queue.proofs.Keeps.{call_keeps}
use Rattle.cleanup_queue.proofs.Sizes.{call_sized}
use Rattle.log_births.specs.Births.{register_recorded, land_recorded}
use Rattle.log_attempts.specs.Attempts.{pop_recorded, complete_recorded, retry_recorded}
use Rattle.log_stages.specs.Stages.{admit_recorded, end_recorded, cancel_recorded}
use Rattle.log_entries.specs.Keeping.{Kept}
use Rattle.log_rows.specs.Rows.{rows}
use Rattle.log_rows.specs.declared.Row.{Row}
use Rattle.log_replay.specs.Replay.{replayed}
use Rattle.log_replay.proofs.RowsKeep.{row_keeps, row_sized}
use Rattle.log_reader.specs.Walk.{read_from}
use Rattle.log_reader.specs.Reader.{end_of, ReadsAs, refused_opening, bad_at, good_log}
use Rattle.log_reader.proofs.Rightly.{reads_from}
use Rattle.log_reader.proofs.Unique.{reads_one}
use Rattle.queue_words.specs.Words.{word, ticket_of, queue_of, words_of, encodes, is_sound}
use Rattle.queue_words.specs.Exported.{Exported, exported, answer_of, born_said, pop_said, complete_said, retry_said, told_said, cancel_said}
use Rattle.queue_words.proofs.RoundTrip.{words_again, queue_sized, queue_again}
use Rattle.queue_words.proofs.OnWords.{record_sound, sound_encodes, sound_fits, sound_length}
use Rattle.gulberzan_c.specs.Recorded.{Recorded, kept_said, on_logged, register_recorded_on, land_recorded_on, pop_recorded_on, complete_recorded_on, retry_recorded_on}
use Rattle.gulberzan_c.specs.Recorded.{admit_recorded_on, admit_without_recorded_on, end_recorded_on, cancel_recorded_on}
use Rattle.history.specs.Histories.{Bench, bench, Outcome, outcome, recorded, called, number_of, Start, History, opens, calls, words_written}
use Rattle.history.proofs.Written.{benches, refused_stays, accepted_is}
use Rattle.history.proofs.Spoken.{Stands, stands}
use Rattle.history.proofs.Accepts.{history_read}
use Rattle.history.proofs.Computed.{made_history}
use Rattle.history.proofs.ListMade.{list_made}
use Rattle.history.specs.ListedHistories.{listed_to}
use Rattle.gulberzan_c.specs.ReadBack.{ReadOn, no_kind, read_back, read_said}
use Rattle.library_laws.specs.CallWords.{WordCall}
use Rattle.library_laws.specs.Sessions.{Session, session, logged_by, logged_to, LibraryCall, opens_scope, opens_iterator, opening_by}
use Rattle.library_laws.specs.Sessions.{session_after, session_after_all, Recorder, begins, goes_on, takes_all, used_words, logged_all}
use Rattle.library_laws.proofs.Sounds.{call_of, born_words, pop_words, complete_words, retry_words, told_words, cancel_words, sound_after, scope_sound, iterator_sound}
use Rattle.library_laws.proofs.WholeLists.{all_sound, all_logged_sound, all_logged_to}
use Rattle.library_laws.proofs.Says.{born_tells, pop_tells, complete_tells, retry_tells, told_number, cancel_tells}
use Rattle.std.specs.Prelude.{Ok, Err}
use Rattle.queue_record.specs.declared.answered.Answered.{Answered}
use Rattle.log_reader.specs.Types.{Read}

-- ---- an exported recorded call on words that encode a record is the bench's recorded call on that record
abbrev pub Matches : Recorded → Outcome → Type 0
Matches r o = (r.call.words ≡ words_of o.bench.queue) × (r.log ≡ o.bench.log) × (r.used ≡ o.bench.used) × (r.call.result ≡ o.number)

module _ (ws : List ℕ) (e : encodes ws ≡ true) (log : List ℕ) (used : ℕ) where
  kept_matches : {A : Type 0} (said : A → List ℕ → Exported) (says : A → Said) → ((a : A) (vs : List ℕ) → (said a vs).words ≡ vs)
      → ((a : A) (vs : List ℕ) → (said a vs).result ≡ (says a).number) → (given : ℕ) (k : Kept A) → Matches (on_logged ws given log used (kept_said said k)) (outcome says k)
  kept_matches said says words number given k =
      subst (λ (r : Recorded). Matches r (outcome says k)) (sym (miss _ (ap not e)))
      (words k.answer _, refl, refl, number k.answer _)

  abbrev pub from : Bench
  from = bench (queue_of ws) used log

  pub logged_is : (c : WordCall) → Matches (logged_by (session ws log used) c) (recorded from (call_of ws c))
  unfolding register_recorded_on land_recorded_on pop_recorded_on complete_recorded_on retry_recorded_on admit_recorded_on admit_without_recorded_on end_recorded_on cancel_recorded_on
  logged_is (WordCall.register n) = kept_matches born_said registered_says born_words (λ a vs. (born_tells vs a).number) n (register_recorded (queue_of ws) n log used)
  logged_is (WordCall.land n) = kept_matches born_said registered_says born_words (λ a vs. (born_tells vs a).number) n (land_recorded (queue_of ws) n log used)
  logged_is WordCall.pop = kept_matches pop_said popped_says pop_words (λ a vs. (pop_tells vs a).number) 0 (pop_recorded (queue_of ws) log used)
  logged_is (WordCall.complete t o k) =
      kept_matches complete_said completed_says complete_words (λ a vs. (complete_tells vs a).number) k
      (complete_recorded (queue_of ws) (ticket_of (word t 0) (word t 1) (word t 2)) o k log used)
  logged_is WordCall.retry = kept_matches retry_said retried_says retry_words (λ a vs. (retry_tells vs a).number) 0 (retry_recorded (queue_of ws) log used)
  logged_is (WordCall.admit t) = kept_matches told_said told_says told_words (λ a vs. told_number vs a) 0 (admit_recorded (queue_of ws) (matches (queue_of ws) t) log used)
  logged_is WordCall.admit_without = kept_matches told_said told_says told_words (λ a vs. told_number vs a) 0 (admit_recorded (queue_of ws) false log used)
  logged_is WordCall.end = kept_matches told_said told_says told_words (λ a vs. told_number vs a) 0 (end_recorded (queue_of ws) log used)
  logged_is WordCall.cancel = kept_matches cancel_said cancelled_says cancel_words (λ a vs. (cancel_tells vs a).number) 0 (cancel_recorded (queue_of ws) log used)

-- ---- a refused one leaves words, log and used rows
sessions : {v w k l : List ℕ} {m n : ℕ} → v ≡ w → k ≡ l → m ≡ n → session v k m ≡ session w l n
sessions e f g = rw (e, f, g)

-- words that encode no record
none_logged : (s : Session) → encodes s.words ≡ false → (c : WordCall) → logged_to (logged_by s c) ≡ s
unfolding register_recorded_on land_recorded_on pop_recorded_on complete_recorded_on retry_recorded_on admit_recorded_on admit_without_recorded_on end_recorded_on cancel_recorded_on
none_logged s e (WordCall.register n) = ap logged_to (hit _ (ap not e))
none_logged s e (WordCall.land n) = ap logged_to (hit _ (ap not e))
none_logged s e WordCall.pop = ap logged_to (hit _ (ap not e))
none_logged s e (WordCall.complete t o k) = ap logged_to (hit _ (ap not e))
none_logged s e WordCall.retry = ap logged_to (hit _ (ap not e))
none_logged s e (WordCall.admit t) = ap logged_to (hit _ (ap not e))
none_logged s e WordCall.admit_without = ap logged_to (hit _ (ap not e))
none_logged s e WordCall.end = ap logged_to (hit _ (ap not e))
none_logged s e WordCall.cancel = ap logged_to (hit _ (ap not e))

pub logged_refused : (s : Session) (c : WordCall) → ((logged_by s c).call.result ≡ done → ⊥) → logged_to (logged_by s c) ≡ s
logged_refused s c z = by (encodes s.words) refl
  where
    by : (b : Bool) → encodes s.words ≡ b → logged_to (logged_by s c) ≡ s
    by false e = none_logged s e c
    by true e =
        let m = logged_is s.words e s.log s.used c in
        let b : Bench = from s.words e s.log s.used in
        let f : called b (call_of s.words c) ≡ b = refused_stays b (call_of s.words c) (λ n. z (m.3 ∙ n)) in
        sessions (m.0 ∙ (ap (λ (x : Bench). words_of x.queue) f ∙ words_again s.words e)) (m.1 ∙ ap (λ (x : Bench). x.log) f) (m.2 ∙ ap (λ (x : Bench). x.used) f)

-- ---- sound words stay sound
-- a recorded call leaves a well formed record of whole arrays
called_fits : (b : Bench) (c : Call) → well_formed b.queue ≡ true → Sized b.queue → well_formed (called b c).queue ≡ true × Sized (called b c).queue
called_fits b c w z = go (eqb (number_of b c) 0) refl
  where
    go : (d : Bool) → eqb (number_of b c) 0 ≡ d → well_formed (called b c).queue ≡ true × Sized (called b c).queue
    go true e =
        subst (λ (x : Bench). well_formed x.queue ≡ true × Sized x.queue) (sym (accepted_is b c (eqb-true _ _ e)).2)
        (call_keeps b.queue c w, call_sized b.queue c z)
    go false e = subst (λ (x : Bench). well_formed x.queue ≡ true × Sized x.queue) (sym (refused_stays b c (eqb-false _ _ e))) (w, z)

logged_sound : (s : Session) → is_sound s.words ≡ true → (c : WordCall) → is_sound (logged_by s c).call.words ≡ true
logged_sound s h c =
    let e : encodes s.words ≡ true = sound_encodes s.words h in
    let m = logged_is s.words e s.log s.used c in
    let f = called_fits (from s.words e s.log s.used) (call_of s.words c) (sound_fits s.words h) (queue_sized s.words (sound_length s.words h)) in
    ap is_sound m.0 ∙ record_sound _ f.1 f.0

-- what the reader gives is well formed, whatever the log
end_fits : (rs : List Row) (q : Queue) → well_formed q ≡ true → Sized q → well_formed (end_of q rs) ≡ true × Sized (end_of q rs)
end_fits [] q w z = (w, z)
end_fits (r ∷ rs) q w z = end_fits rs (replayed q r).queue (row_keeps q w r) (row_sized q z r)

read_fits : (o : Opening) (log : List ℕ) (r : Answered Read) → ReadsAs o log r → well_formed r.queue ≡ true × Sized r.queue
read_fits o log r (refused_opening {n} e) =
    subst (λ (q : Queue). well_formed q ≡ true × Sized q) (opened_refused n o e).1 (opened_well_formed o, opened_sized o)
read_fits o log r (bad_at place e b) = end_fits (take place (rows log)) (opened_as o).queue (opened_well_formed o) (opened_sized o)
read_fits o log r (good_log e b) = end_fits (rows log) (opened_as o).queue (opened_well_formed o) (opened_sized o)

read_sound : (o : Opening) (log : List ℕ) → is_sound (words_of (read_from (opened_as o) log).queue) ≡ true
read_sound o log = let f = read_fits o log (read_from (opened_as o) log) (reads_from o log) in record_sound (read_from (opened_as o) log).queue f.1 f.0

said_words : (a : Read) (ws : List ℕ) → (read_said a ws).words ≡ ws
said_words (Ok n) ws = refl
said_words (Err (n, place)) ws = refl

session_step : (s : Session) → is_sound s.words ≡ true → (c : LibraryCall) → is_sound (session_after s c).words ≡ true
session_step s h (opens_scope domain first) = scope_sound domain first
session_step s h (opens_iterator domain first bindings) = iterator_sound domain first bindings
session_step s h (LibraryCall.makes c) = sound_after s.words h c
session_step s h (LibraryCall.registers_all ns) = all_sound s.words ns h
session_step s h (LibraryCall.records c) = logged_sound s h c
session_step s h (LibraryCall.records_all ns) = all_logged_sound s ns h
session_step s h (LibraryCall.reads kind domain first bindings log) =
    if_by (λ (t : Session). is_sound t.words ≡ true) (ltb 1 kind) _ _ (λ _. h)
    (λ _. read_sound (opening_by kind domain first bindings) log)

-- what a session's reader leaves is what the contract of the reader for C says
pub read_leaves : (s : Session) (kind domain first : ℕ) (bindings log : List ℕ) (x : Exported) → ReadOn s.words kind domain first bindings log x
    → x.words ≡ (session_after s (LibraryCall.reads kind domain first bindings log)).words
read_leaves s kind domain first bindings log x (no_kind l) = ap (λ (t : Session). t.words) (sym (hit _ (lt-ltb 1 kind l)))
read_leaves s kind domain first bindings log x (read_back r l a) =
    let o = opening_by kind domain first bindings in
    said_words r.answer (words_of r.queue)
    ∙ (ap (λ (y : Answered Read). words_of y.queue) (reads_one o log r (read_from (opened_as o) log) a (reads_from o log))
    ∙ ap (λ (t : Session). t.words) (sym (miss _ (le-ltb 1 kind l))))

-- and nothing else of the session is moved
pub read_steps : (s : Session) (kind domain first : ℕ) (bindings log : List ℕ) (x : Exported) → ReadOn s.words kind domain first bindings log x
    → session x.words s.log s.used ≡ session_after s (LibraryCall.reads kind domain first bindings log)
read_steps s kind domain first bindings log x h =
    ap (λ (ws : List ℕ). session ws s.log s.used) (read_leaves s kind domain first bindings log x h)
    ∙ if_by (λ (u : Session). session u.words s.log s.used ≡ u) (ltb 1 kind) _ _ (λ _. refl) (λ _. refl)

-- whatever is called, recorded or read, a queue that was opened stays sound: 1 is never said of it
pub session_sound : (s : Session) → is_sound s.words ≡ true → (cs : List LibraryCall) → is_sound (session_after_all s cs).words ≡ true
session_sound s h [] = h
session_sound s h (c ∷ cs) = session_sound (session_after s c) (session_step s h c) cs

-- ---- recorded calls and the reader
-- where a session of recorded calls stands: a history of a bench whose record its words are
pub record Lived (o : Opening) (memory : List ℕ) (s : Session) : Type 0 where
  pub bench : Bench
  pub history : History (record { opening = o; memory = memory }) bench
  pub words : s.words ≡ words_of bench.queue
  pub log : s.log ≡ bench.log
  pub used : s.used ≡ bench.used

-- its words are sound, and the bench is read off them
module _ (o : Opening) (memory : List ℕ) (s : Session) (l : Lived o memory s) where
  abbrev start : Start
  start = record { opening = o; memory = memory }

  lived_stands : Stands start l.bench
  lived_stands = stands start l.bench l.history

  lived_encodes : encodes s.words ≡ true
  lived_encodes = sound_encodes s.words (ap is_sound l.words ∙ record_sound l.bench.queue lived_stands.sized lived_stands.sound)

  lived_bench : from s.words lived_encodes s.log s.used ≡ l.bench
  lived_bench = benches (ap queue_of l.words ∙ queue_again l.bench.queue lived_stands.sized) l.used l.log

  lived_history : History start (from s.words lived_encodes s.log s.used)
  lived_history = subst (History start) (sym lived_bench) l.history

lived : (o : Opening) (memory : List ℕ) (s : Session) → Recorder o memory s → Lived o memory s
lived o memory _ (begins e) = record { bench = bench (opened_as o).queue 0 memory; history = opens e; words = refl; log = refl; used = refl }
lived o memory _ (goes_on {s} r c h) =
    let l : Lived o memory s = lived o memory s r in
    let e : encodes s.words ≡ true = lived_encodes o memory s l in
    let m = logged_is s.words e s.log s.used c in
    record {
      bench = called (from s.words e s.log s.used) (call_of s.words c);
      history = calls (lived_history o memory s l) (call_of s.words c) (sym m.3 ∙ h);
      words = m.0;
      log = m.1;
      used = m.2;
    }
lived o memory _ (takes_all {s} r ns) =
    let l : Lived o memory s = lived o memory s r in
    let e : encodes s.words ≡ true = lived_encodes o memory s l in
    let m : logged_to (logged_all s ns) ≡ _ = all_logged_to s ns e in
    let b : Bench = from s.words e s.log s.used in
    record {
      bench = listed_to b ns;
      history = made_history (lived_history o memory s l) (list_made b ns);
      words = ap (λ (t : Session). t.words) m;
      log = ap (λ (t : Session). t.log) m;
      used = ap (λ (t : Session). t.used) m;
    }

-- of the log that recorded calls left the reader says: good, all the rows, and the record that the words encode
pub recorder_read : (o : Opening) (memory : List ℕ) (s : Session) → Recorder o memory s → (r : Answered Read) → ReadsAs o (used_words s) r
    → (r.answer ≡ Ok s.used) × (words_of r.queue ≡ s.words)
recorder_read o memory s w r a =
    let l : Lived o memory s = lived o memory s w in
    let e : used_words s ≡ words_written l.bench = ap (λ (n : ℕ). take (n * 5) s.log) l.used ∙ ap (take (l.bench.used * 5)) l.log in
    let g = history_read (record { opening = o; memory = memory }) l.bench l.history r (subst (λ (x : List ℕ). ReadsAs o x r) e a) in (
      ap (λ (x : Answered Read). x.answer) g ∙ ap Ok (sym l.used),
      ap (λ (x : Answered Read). words_of x.queue) g ∙ sym l.words,
    )

-- so the reader for C, lent any words for its queue, says how many rows were used, and leaves the very same words there
pub read_back_same : (kind domain first : ℕ) (bindings memory : List ℕ) (s : Session) → kind ≤ 1 → Recorder (opening_by kind domain first bindings) memory s
    → (ws : List ℕ) (x : Exported) → ReadOn ws kind domain first bindings (used_words s) x → x ≡ exported done (answer_of 1 s.used) s.words
read_back_same kind domain first bindings memory s k w ws x (no_kind l) = absurd (omega arith)
read_back_same kind domain first bindings memory s k w ws x (read_back r l a) =
    let g = recorder_read (opening_by kind domain first bindings) memory s w r a in
    ap (λ (y : Read). read_said y (words_of r.queue)) g.0 ∙ ap (exported done (answer_of 1 s.used)) g.1

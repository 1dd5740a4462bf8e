-- A bench that only calls the library: its queue's words, its log's words and its used rows
use Rattle.std.specs.Prelude.{ℕ, ◌*◌, ◌≡◌, List, [], ◌∷◌, ltb, take, Ok}
use Rattle.choice.specs.Choice.{when◌then◌else◌}
use Rattle.queue_record.specs.Refusals.{done}
use Rattle.queue_record.specs.Openings.{Opening, heading_of, opening_of, scope_opened, iterator_opened, opened_as}
use Rattle.log_reader.specs.Walk.{read_from}
use Rattle.queue_words.specs.Words.{kind_at, words_of}
use Rattle.queue_words.specs.Exported.{register_all_on}
use Rattle.gulberzan_c.specs.Recorded.{Recorded, register_recorded_on, land_recorded_on, pop_recorded_on, complete_recorded_on, retry_recorded_on}
use Rattle.gulberzan_c.specs.Recorded.{admit_recorded_on, admit_without_recorded_on, end_recorded_on, cancel_recorded_on, register_all_recorded_on}
use Rattle.library_laws.specs.CallWords.{WordCall, words_after}

pub record Session : Type 0 where
  pub words : List ℕ
  pub log : List ℕ
  pub used : ℕ

abbrev pub session : List ℕ → List ℕ → ℕ → Session
session words log used = record { words = words; log = log; used = used }

-- an exported recorded call: the contracts of the recorded functions for C say these words
abbrev pub logged_by : Session → WordCall → Recorded
logged_by s (WordCall.register number) = register_recorded_on s.words number s.log s.used
logged_by s (WordCall.land number) = land_recorded_on s.words number s.log s.used
logged_by s WordCall.pop = pop_recorded_on s.words s.log s.used
logged_by s (WordCall.complete ticket outcome kept) = complete_recorded_on s.words ticket outcome kept s.log s.used
logged_by s WordCall.retry = retry_recorded_on s.words s.log s.used
logged_by s (WordCall.admit target) = admit_recorded_on s.words target s.log s.used
logged_by s WordCall.admit_without = admit_without_recorded_on s.words s.log s.used
logged_by s WordCall.end = end_recorded_on s.words s.log s.used
logged_by s WordCall.cancel = cancel_recorded_on s.words s.log s.used

-- and that of a whole list
abbrev pub logged_all : Session → List ℕ → Recorded
logged_all s numbers = register_all_recorded_on s.words numbers s.log s.used

abbrev pub logged_to : Recorded → Session
logged_to r = session r.call.words r.log r.used

-- any call of the library that writes a queue's words: an opening, a call, a recorded call, either with a whole list, or the reader with
-- another log
pub data LibraryCall : Type 0 where
  opens_scope : ℕ → ℕ → LibraryCall
  opens_iterator : ℕ → ℕ → List ℕ → LibraryCall
  makes : WordCall → LibraryCall
  registers_all : List ℕ → LibraryCall
  records : WordCall → LibraryCall
  records_all : List ℕ → LibraryCall
  reads : ℕ → ℕ → ℕ → List ℕ → List ℕ → LibraryCall

-- the opening that a kind's number, a domain, a first attempt and bindings are
abbrev pub opening_by : ℕ → ℕ → ℕ → List ℕ → Opening
opening_by kind domain first bindings = opening_of (heading_of (kind_at kind) domain first) bindings

abbrev pub session_after : Session → LibraryCall → Session
session_after s (opens_scope domain first) = session (words_of (scope_opened domain first).queue) s.log s.used
session_after s (opens_iterator domain first bindings) = session (words_of (iterator_opened domain first bindings).queue) s.log s.used
session_after s (makes c) = session (words_after s.words c) s.log s.used
session_after s (registers_all numbers) = session (register_all_on s.words numbers).words s.log s.used
session_after s (records c) = logged_to (logged_by s c)
session_after s (records_all numbers) = logged_to (logged_all s numbers)
session_after s (reads kind domain first bindings log) =
    when ltb 1 kind then s else session (words_of (read_from (opened_as (opening_by kind domain first bindings)) log).queue) s.log s.used

abbrev pub session_after_all : Session → List LibraryCall → Session
session_after_all s [] = s
session_after_all s (c ∷ cs) = session_after_all (session_after s c) cs

-- a register for each number, plain or recorded
abbrev pub registers_each : (WordCall → LibraryCall) → List ℕ → List LibraryCall
registers_each form [] = []
registers_each form (number ∷ numbers) = form (WordCall.register number) ∷ registers_each form numbers

-- a session of recorded calls from an opening that was not refused, used count 0, any log memory, each call accepted, and each whole list
-- with whatever it answers
pub data Recorder (o : Opening) (memory : List ℕ) : Session → Type 0 where
  begins : (opened_as o).answer ≡ (Ok tt) → Recorder o memory (session (words_of (opened_as o).queue) memory 0)
  goes_on : {s : Session} → Recorder o memory s → (c : WordCall) → (logged_by s c).call.result ≡ done → Recorder o memory (logged_to (logged_by s c))
  takes_all : {s : Session} → Recorder o memory s → (numbers : List ℕ) → Recorder o memory (logged_to (logged_all s numbers))

-- the words of the log's used rows
abbrev pub used_words : Session → List ℕ
used_words s = take (s.used * 5) s.log

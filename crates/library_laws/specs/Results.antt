-- The number that a call of the library returns, and when it may be 1
use Rattle.std.specs.Prelude.{ℕ, ◌<◌, ◌≡◌, false, List, length}
use Rattle.queue_record.specs.Openings.{scope_opened, iterator_opened}
use Rattle.log_rows.specs.Appending.{rows_fit}
use Rattle.queue_words.specs.Exported.{Exported, OpensOn, register_on, land_on, pop_on, complete_on, retry_on, admit_on, admit_without_on, end_on, cancel_on, register_all_on}
use Rattle.queue_words.specs.Exported.{is_empty_on, is_issued_on, is_pending_on, is_settled_on, is_cancelled_on, has_failed_on, can_retry_on, can_finish_on, domain_on}
use Rattle.gulberzan_c.specs.ReadBack.{ReadOn}
use Rattle.library_laws.specs.CallWords.{WordCall}
use Rattle.library_laws.specs.Sessions.{Session, LibraryCall, logged_by, logged_all}

-- what a plain call hands back: the contracts of the functions for C say these words
abbrev pub made_by : List ℕ → WordCall → Exported
made_by ws (WordCall.register number) = register_on ws number
made_by ws (WordCall.land number) = land_on ws number
made_by ws WordCall.pop = pop_on ws
made_by ws (WordCall.complete ticket outcome kept) = complete_on ws ticket outcome kept
made_by ws WordCall.retry = retry_on ws
made_by ws (WordCall.admit target) = admit_on ws target
made_by ws WordCall.admit_without = admit_without_on ws
made_by ws WordCall.end = end_on ws
made_by ws WordCall.cancel = cancel_on ws

-- the calls that only ask
pub data WordQuestion : Type 0 where
  words_empty : WordQuestion
  words_issued : WordQuestion
  words_pending : WordQuestion
  words_settled : WordQuestion
  words_cancelled : WordQuestion
  words_failed : WordQuestion
  words_retry : WordQuestion
  words_finish : List ℕ → WordQuestion
  words_domain : WordQuestion

abbrev pub asked_on : List ℕ → WordQuestion → Exported
asked_on ws words_empty = is_empty_on ws
asked_on ws words_issued = is_issued_on ws
asked_on ws words_pending = is_pending_on ws
asked_on ws words_settled = is_settled_on ws
asked_on ws words_cancelled = is_cancelled_on ws
asked_on ws words_failed = has_failed_on ws
asked_on ws words_retry = can_retry_on ws
asked_on ws (words_finish target) = can_finish_on ws target
asked_on ws words_domain = domain_on ws

-- n is the number that the call returns in this session, as its contract says
abbrev pub Returned : Session → LibraryCall → ℕ → Type 0
Returned s (LibraryCall.opens_scope domain first) n = (words : List ℕ) × OpensOn (scope_opened domain first) n words
Returned s (LibraryCall.opens_iterator domain first bindings) n = (words : List ℕ) × OpensOn (iterator_opened domain first bindings) n words
Returned s (LibraryCall.makes c) n = n ≡ (made_by s.words c).result
Returned s (LibraryCall.registers_all numbers) n = n ≡ (register_all_on s.words numbers).result
Returned s (LibraryCall.records c) n = n ≡ (logged_by s c).call.result
Returned s (LibraryCall.records_all numbers) n = n ≡ (logged_all s numbers).call.result
Returned s (LibraryCall.reads kind domain first bindings log) n = (x : Exported) × ReadOn s.words kind domain first bindings log x × (n ≡ x.result)

-- when it is 1 on sound words, and so never for the queue's sake: a log with fewer rows than are said to be used, or a kind above 1
abbrev pub IsOne : Session → LibraryCall → Type 0
IsOne s (LibraryCall.opens_scope domain first) = ⊥
IsOne s (LibraryCall.opens_iterator domain first bindings) = ⊥
IsOne s (LibraryCall.makes c) = ⊥
IsOne s (LibraryCall.registers_all numbers) = ⊥
IsOne s (LibraryCall.records c) = rows_fit (length s.log) s.used ≡ false
IsOne s (LibraryCall.records_all numbers) = rows_fit (length s.log) s.used ≡ false
IsOne s (LibraryCall.reads kind domain first bindings log) = 1 < kind

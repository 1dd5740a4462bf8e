-- The calls for C, a line each: which call of a queue one is, and in which form its answer is written
use Rattle.std.specs.Prelude.{ℕ, ◌≡◌, List}
use Rattle.queue_record.specs.Openings.{scope_opened, iterator_opened}
use Rattle.cleanup_queue.specs.Answers.{Said}
use Rattle.queue_words.specs.Layout.{at_given_domain, at_given_token, at_given_attempt}
use Rattle.queue_words.specs.Words.{word, ticket_of, queue_of, words_of}
use Rattle.queue_words.specs.Exported.{Exported, OpensOn, register_all_on}
use Rattle.gulberzan_c.specs.Recorded.{Recorded, recorded_on}
use Rattle.gulberzan_c.specs.ReadBack.{ReadOn}
use Rattle.history.specs.Histories.{Bench, bench}
use Rattle.history.specs.Benches.{BenchCall}
use Rattle.library_laws.specs.CallWords.{WordCall}
use Rattle.library_laws.specs.Sessions.{Session, session, logged_by, logged_all, logged_to, LibraryCall}
use Rattle.library_laws.specs.Results.{made_by}
use Rattle.library_laws.specs.Results.{WordQuestion, words_empty, words_issued, words_pending, words_settled, words_cancelled, words_failed, words_retry, words_finish, words_domain}
use Rattle.library_laws.specs.Values.{plain_words, work_words, yes_no_words, written_as}
use Rattle.demands.specs.CallTables.{QueueQuestion, asks_empty, asks_issued, asks_pending, asks_settled, asks_cancelled, asks_failed, asks_retry, asks_finish, asks_domain}

-- a ticket is given as three words
abbrev pub bench_of : WordCall → BenchCall
bench_of (WordCall.register n) = BenchCall.register n
bench_of (WordCall.land n) = BenchCall.land n
bench_of WordCall.pop = BenchCall.pop
bench_of (WordCall.complete t outcome kept) = BenchCall.complete (ticket_of (word t at_given_domain) (word t at_given_token) (word t at_given_attempt)) outcome kept
bench_of WordCall.retry = BenchCall.retry
bench_of (WordCall.admit target) = BenchCall.admit target
bench_of WordCall.admit_without = BenchCall.admit_without
bench_of WordCall.end = BenchCall.end
bench_of WordCall.cancel = BenchCall.cancel

abbrev pub form_of : WordCall → Said → List ℕ
form_of (WordCall.register n) = plain_words
form_of (WordCall.land n) = plain_words
form_of WordCall.pop = work_words
form_of (WordCall.complete t outcome kept) = plain_words
form_of WordCall.retry = plain_words
form_of (WordCall.admit target) = yes_no_words
form_of WordCall.admit_without = yes_no_words
form_of WordCall.end = yes_no_words
form_of WordCall.cancel = plain_words

-- ---- the calls that only ask
abbrev pub question_of : WordQuestion → QueueQuestion
question_of words_empty = asks_empty
question_of words_issued = asks_issued
question_of words_pending = asks_pending
question_of words_settled = asks_settled
question_of words_cancelled = asks_cancelled
question_of words_failed = asks_failed
question_of words_retry = asks_retry
question_of (words_finish target) = asks_finish target
question_of words_domain = asks_domain

abbrev pub form_asked : WordQuestion → Said → List ℕ
form_asked words_empty = yes_no_words
form_asked words_issued = yes_no_words
form_asked words_pending = yes_no_words
form_asked words_settled = yes_no_words
form_asked words_cancelled = yes_no_words
form_asked words_failed = yes_no_words
form_asked words_retry = yes_no_words
form_asked (words_finish target) = yes_no_words
form_asked words_domain = plain_words

-- ---- the recorded calls: the bench that a session's words are, and what is handed back of one
abbrev pub bench_in : Session → Bench
bench_in s = bench (queue_of s.words) s.used s.log

abbrev pub logged_as : (Said → List ℕ) → Said → Bench → Recorded
logged_as form s b = recorded_on (written_as form s (words_of b.queue)) b.log b.used

-- ---- any call that writes a queue's words: t is the session that it leaves, as its contract says
abbrev pub LeavesSession : Session → LibraryCall → Session → Type 0
LeavesSession s (LibraryCall.opens_scope domain first) t = (n : ℕ) × (words : List ℕ) × OpensOn (scope_opened domain first) n words × (t ≡ session words s.log s.used)
LeavesSession s (LibraryCall.opens_iterator domain first bindings) t = (n : ℕ) × (words : List ℕ) × OpensOn (iterator_opened domain first bindings) n words × (t ≡ session words s.log s.used)
LeavesSession s (LibraryCall.makes c) t = t ≡ session (made_by s.words c).words s.log s.used
LeavesSession s (LibraryCall.registers_all numbers) t = t ≡ session (register_all_on s.words numbers).words s.log s.used
LeavesSession s (LibraryCall.records c) t = t ≡ logged_to (logged_by s c)
LeavesSession s (LibraryCall.records_all numbers) t = t ≡ logged_to (logged_all s numbers)
LeavesSession s (LibraryCall.reads kind domain first bindings log) t = (x : Exported) × ReadOn s.words kind domain first bindings log x × (t ≡ session x.words s.log s.used)

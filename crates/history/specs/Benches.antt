-- Calls as a bench makes them, each input a word of 64 bits: an admit names a target, or none
use Rattle.std.specs.Prelude.{ℕ, ◌≡◌, Bool, true, false, List, [], ◌∷◌, Ok}
use Rattle.queue_record.specs.Refusals.{done}
use Rattle.queue_record.specs.Openings.{Opening, opened_as}
use Rattle.queue_record.specs.declared.record.Ticket.{Ticket}
use Rattle.queue_record.specs.declared.record.Queue.{Queue}
use Rattle.queue_questions.specs.Questions.{matches}
use Rattle.cleanup_queue.specs.Runs.{Call}
use Rattle.log_language.specs.Readings.{every}
use Rattle.history.specs.Histories.{Bench, bench, called, number_of, words_written}
use Rattle.history.specs.Fits.{is_word, fits}

pub data BenchCall : Type 0 where
  register : ℕ → BenchCall
  land : ℕ → BenchCall
  pop : BenchCall
  complete : Ticket → ℕ → ℕ → BenchCall
  retry : BenchCall
  admit : List ℕ → BenchCall
  admit_without : BenchCall
  end : BenchCall
  cancel : BenchCall

-- the queue's call that it is: a target matches or does not
abbrev pub call_on : Queue → BenchCall → Call
call_on q (BenchCall.register n) = Call.register n
call_on q (BenchCall.land n) = Call.land n
call_on q BenchCall.pop = Call.pop
call_on q (BenchCall.complete t outcome kept) = Call.complete t outcome kept
call_on q BenchCall.retry = Call.retry
call_on q (BenchCall.admit target) = Call.admit (matches q target)
call_on q BenchCall.admit_without = Call.admit false
call_on q BenchCall.end = Call.end
call_on q BenchCall.cancel = Call.cancel

-- each number that it is given is a word of 64 bits; of a call without a target this does not ask the queue
abbrev pub words_given : BenchCall → Bool
words_given (BenchCall.register n) = fits (Call.register n)
words_given (BenchCall.land n) = fits (Call.land n)
words_given BenchCall.pop = true
words_given (BenchCall.complete t outcome kept) = fits (Call.complete t outcome kept)
words_given BenchCall.retry = true
words_given (BenchCall.admit target) = every is_word target
words_given BenchCall.admit_without = true
words_given BenchCall.end = true
words_given BenchCall.cancel = true

-- these calls, one after the other, each accepted, lead from one bench to the other
pub data Called : Bench → List BenchCall → Bench → Type 0 where
  called_none : {a : Bench} → Called a [] a
  called_one : {a b : Bench} {c : BenchCall} {cs : List BenchCall} → number_of a (call_on a.queue c) ≡ done
      → Called (called a (call_on a.queue c)) cs b → Called a (c ∷ cs) b

-- an opening of words of 64 bits, which was not refused
pub record WordOpening (o : Opening) : Type 0 where
  pub unrefused : (opened_as o).answer ≡ Ok tt
  pub domain : is_word o.heading.domain ≡ true
  pub first : is_word o.heading.first ≡ true
  pub bindings : every is_word o.bindings ≡ true

-- calls with 64-bit inputs, from the opening on and in this memory, leave exactly these words
pub record LeftIn (o : Opening) (memory log : List ℕ) : Type 0 where
  pub calls : List BenchCall
  pub given : every words_given calls ≡ true
  pub end : Bench
  pub made : Called (bench (opened_as o).queue 0 memory) calls end
  pub words : words_written end ≡ log

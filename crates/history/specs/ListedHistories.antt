-- A whole list registered and recorded, as a bench does it, and the histories in which that happens
use Rattle.std.specs.Prelude.{ℕ, ◌≡◌, Bool, not, true, List, [], ◌∷◌, ◌++◌, length, drop, Ok}
use Rattle.queue_record.specs.Refusals.{done}
use Rattle.queue_record.specs.declared.refusal.Refusal.TheVariants.{Broken}
use Rattle.queue_record.specs.Openings.{Opening, opened_as}
use Rattle.queue_births.specs.declared.sequences.RegisteredAll.{RegisteredAll}
use Rattle.cleanup_queue.specs.Orders.{Ground, due, register_order, broken_only}
use Rattle.cleanup_queue.specs.Runs.{Call}
use Rattle.log_rows.specs.Appending.{rows_fit}
use Rattle.log_entries.specs.Noting.{changes}
use Rattle.log_entries.specs.Keeping.{Kept}
use Rattle.log_births.specs.Sequences.{register_all_recorded}
use Rattle.log_language.specs.Readings.{every}
use Rattle.cleanup_log.specs.RecordedOrders.{recorded_order}
use Rattle.cleanup_log.specs.Entries.{entry_of}
use Rattle.history.specs.Histories.{Bench, bench, called, number_of, Start, words_written}
use Rattle.history.specs.Fits.{is_word}
use Rattle.history.specs.Benches.{BenchCall, call_on, words_given}

-- where a bench stands behind what a recorded call gives
abbrev pub stands_at : {A : Type 0} → Kept A → Bench
stands_at k = bench k.queue k.used k.log

-- the whole list: the contract of the recorded call says these words
abbrev pub list_recorded : Bench → List ℕ → Kept RegisteredAll
list_recorded b ns = register_all_recorded b.queue ns b.log b.used

abbrev pub listed_to : Bench → List ℕ → Bench
listed_to b ns = stands_at (list_recorded b ns)

abbrev pub list_answer : Bench → List ℕ → RegisteredAll
list_answer b ns = (list_recorded b ns).answer

-- what refuses the recorded register of the first of some numbers, if there is one
abbrev pub first_recorded_order : Bench → List ℕ → List Ground
first_recorded_order b [] = []
first_recorded_order b (n ∷ ns) = recorded_order (length b.log) b.used (register_order b.queue n) (changes (entry_of b.queue (Call.register n)))

-- 1, of the used rows and of the record, of an empty list too; then as the recorded register of the next one, behind those that were taken
abbrev pub list_order : Bench → List ℕ → List Ground
list_order b ns =
    due Broken (not (rows_fit (length b.log) b.used))
    ∷ (broken_only b.queue ++ first_recorded_order (listed_to b ns) (drop (list_answer b ns).taken ns))

-- ---- histories with lists: a call is accepted; a list stays with what it took, whatever it answers
pub data ListedHistory (s : Start) : Bench → Type 0 where
  listed_opens : (opened_as s.opening).answer ≡ Ok tt → ListedHistory s (bench (opened_as s.opening).queue 0 s.memory)
  listed_calls : {b : Bench} → ListedHistory s b → (c : Call) → number_of b c ≡ done → ListedHistory s (called b c)
  listed_takes : {b : Bench} → ListedHistory s b → (ns : List ℕ) → ListedHistory s (listed_to b ns)

-- what a bench does: a call, or a whole list at once
pub data Deed : Type 0 where
  makes_call : BenchCall → Deed
  takes_list : List ℕ → Deed

-- each number that it is given is a word of 64 bits
abbrev pub words_in : Deed → Bool
words_in (makes_call c) = words_given c
words_in (takes_list ns) = every is_word ns

-- these, one after the other, lead from one bench to the other
pub data Did : Bench → List Deed → Bench → Type 0 where
  did_nothing : {a : Bench} → Did a [] a
  did_call : {a b : Bench} {c : BenchCall} {ds : List Deed} → number_of a (call_on a.queue c) ≡ done
      → Did (called a (call_on a.queue c)) ds b → Did a (makes_call c ∷ ds) b
  did_list : {a b : Bench} {ns : List ℕ} {ds : List Deed} → Did (listed_to a ns) ds b → Did a (takes_list ns ∷ ds) b

-- such deeds with 64-bit inputs, from the opening on and in this memory, leave exactly these words
pub record LeftListed (o : Opening) (memory log : List ℕ) : Type 0 where
  pub deeds : List Deed
  pub given : every words_in deeds ≡ true
  pub end : Bench
  pub did : Did (bench (opened_as o).queue 0 memory) deeds end
  pub words : words_written end ≡ log

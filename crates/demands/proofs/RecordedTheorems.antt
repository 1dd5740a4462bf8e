-- The recorded calls' part of the demands, call by call
use mathlib.Core.Path.{◌≡◌, refl, ap, ◌∙◌}
use Prim.Native.Nat.{◌+◌}
use mathlib.Core.Bool.{true, false}
use lib.ListN.{length}
use Rattle.std.specs.Prelude.{Some, None, Ok, Err}
use Rattle.choice.proofs.Ways.{clash}
use Rattle.queue_record.specs.Refusals.{done}
use Rattle.queue_questions.specs.Questions.{matches}
use Rattle.cleanup_queue.specs.Runs.{Call, after}
use Rattle.log_rows.specs.Rows.{flat, written}
use Rattle.log_rows.specs.Appending.{rows_fit, has_room}
use Rattle.log_rows.specs.declared.Row.{Row}
use Rattle.log_entries.specs.Types.{Entry}
use Rattle.log_entries.specs.Noting.{changes}
use Rattle.cleanup_log.specs.Entries.{entry_of}
use Rattle.history.specs.Histories.{Bench, bench, called, number_of}
use Rattle.history.specs.Benches.{BenchCall, call_on}
use Rattle.history.proofs.Written.{accepted_is, goes}
use Rattle.history.proofs.Answered.{Answered, register_answered, land_answered, pop_answered, complete_answered, retry_answered, admit_answered, end_answered, cancel_answered}
use Rattle.demands.specs.CallTables.{said_by, given_to, left_by}
use Rattle.demands.specs.RecordedTables.{said_recorded}

one_call_lem : (b : Bench) (c : BenchCall) → (said_recorded b c).number ≡ number_of b (call_on b.queue c)
one_call_lem b (BenchCall.register n) = refl
one_call_lem b (BenchCall.land n) = refl
one_call_lem b BenchCall.pop = refl
one_call_lem b (BenchCall.complete t o k) = refl
one_call_lem b BenchCall.retry = refl
one_call_lem b (BenchCall.admit target) = refl
one_call_lem b BenchCall.admit_without = refl
one_call_lem b BenchCall.end = refl
one_call_lem b BenchCall.cancel = refl

by_call : (b : Bench) (c : BenchCall) → Answered (given_to c) (said_recorded b c) (said_by b.queue c)
by_call b (BenchCall.register n) = register_answered b.queue b.log b.used n
by_call b (BenchCall.land n) = land_answered b.queue b.log b.used n
by_call b BenchCall.pop = pop_answered b.queue b.log b.used
by_call b (BenchCall.complete t o k) = complete_answered b.queue b.log b.used t o k
by_call b BenchCall.retry = retry_answered b.queue b.log b.used
by_call b (BenchCall.admit target) = admit_answered b.queue b.log b.used (matches b.queue target)
by_call b BenchCall.admit_without = admit_answered b.queue b.log b.used false
by_call b BenchCall.end = end_answered b.queue b.log b.used
by_call b BenchCall.cancel = cancel_answered b.queue b.log b.used

pub recorded_answers_lem : (b : Bench) (c : BenchCall) → ((said_recorded b c).number ≡ number_of b (call_on b.queue c))
    × (number_of b (call_on b.queue c) ≡ done → (said_recorded b c ≡ said_by b.queue c) × ((called b (call_on b.queue c)).queue ≡ left_by b.queue c))
recorded_answers_lem b c = (
  one_call_lem b c,
  λ z. ((by_call b c).0 (one_call_lem b c ∙ z), ap (λ (x : Bench). x.queue) (accepted_is b (call_on b.queue c) z).2),
)

pub refused_recorded_lem : (b : Bench) (c : BenchCall) → ((said_recorded b c).number ≡ done → ⊥) → (said_recorded b c).values ≡ given_to c
refused_recorded_lem b c = (by_call b c).1

-- a call that changes the queue has a row, and with room it stands behind the used ones
row_of_change : (e : Entry) → changes e ≡ true → (row : Row) × (e ≡ Ok (Some row))
row_of_change (Ok (Some row)) h = (row, refl)
row_of_change (Ok None) h = clash {b = false} h refl
row_of_change (Err refusal) h = clash {b = false} h refl

pub row_is_written_lem : (b : Bench) (c : Call) → rows_fit (length b.log) b.used ≡ true → has_room (length b.log) b.used ≡ true → changes (entry_of b.queue c) ≡ true
    → (number_of b c ≡ done) × ((row : Row) × (entry_of b.queue c ≡ Ok (Some row)) × (called b c ≡ bench (after b.queue c) (b.used + 1) (written b.log b.used (flat row))))
row_is_written_lem b c fit room h =
    let r = row_of_change (entry_of b.queue c) h in
    let g = goes b c (record { fits = fit; room = room }) r.0 r.1 in
    (g.0, (r.0, r.1, g.1))

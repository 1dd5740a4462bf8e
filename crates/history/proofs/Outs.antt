-- One undo is out at a time, and the newest goes first: what holds of every history
use Prim.Native.Nat.{◌+◌}
use mathlib.Core.Path.{◌≡◌, refl, ap}
use mathlib.Core.Bool.{Bool, true, false}
use native.Mathlib.Omega.{arith}
use lib.ListN.{length}
use Rattle.choice.specs.Choice.{when◌then◌else◌}
use Rattle.choice.proofs.Ways.{clash}
use Rattle.queue_record.specs.WellFormed.{marks_fit, is_selected}
use Rattle.queue_record.proofs.Fit.{fit}
use Rattle.log_language.specs.Readings.{keep}
use Rattle.log_language.specs.RowKinds.{is}
use Rattle.log_language.specs.RowKinds.RowKind.{pop, complete}
use Rattle.log_language.specs.Language.{Rule3, Rule4}
use Rattle.log_language.proofs.RowSteps.{State}
use Rattle.log_language.proofs.Pops.{outs, pops_out}
use Rattle.log_replay.proofs.StateOf.{selected_of}
use Rattle.history.specs.Histories.{Bench, Start, History, rows_of, setting, out_of}
use Rattle.history.proofs.Spoken.{Stands, stands, history_belongs}
use Rattle.std.specs.Prelude.{Option, Some, None}
use Rattle.queue_record.specs.declared.record.Ticket.{Ticket}

-- ---- at most one undo is out
out_is : (x : Option Ticket) (f i : Bool) → marks_fit (is_selected x) f i ≡ true → outs (selected_of x f i) ≡ (when i then 1 else 0)
out_is None true true h = clash h refl
out_is None true false h = refl
out_is None false true h = clash h refl
out_is None false false h = refl
out_is (Some t) f true h = refl
out_is (Some t) true false h = refl
out_is (Some t) false false h = refl

-- as many pops as completes, and one more exactly while an undo is out
pub history_out : (s : Start) (b : Bench) → History s b → length (keep (is pop) (rows_of b)) ≡ length (keep (is complete) (rows_of b)) + out_of b.queue
history_out s b h =
    let i : Stands s b = stands s b h in
    let n = pops_out (setting s) (rows_of b) i.spoken in
    let o = out_is b.queue.selection b.queue.failed b.queue.issued (fit b.queue i.sound).marks in
    let e = ap (λ (x : State). outs x.selected) i.state in
    omega arith

-- ---- spans and order
-- from its first pop until its Done no other token is popped
pub history_alone : (s : Start) (b : Bench) → History s b → Rule3 (rows_of b)
history_alone s b h = (history_belongs s b h).spans_apart

-- the newest waiting token is handed out first
pub history_newest : (s : Start) (b : Bench) → History s b → Rule4 (rows_of b)
history_newest s b h = (history_belongs s b h).newest_first

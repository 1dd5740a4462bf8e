-- what was counted so far and what waits from here on make the whole
use Rattle.std.proofs.Common.{◌+◌, ◌≤◌, ◌≡◌, drop}
use Rattle.queue_record.specs.Waiting.{occupied}
use Rattle.queue_record.proofs.WaitingCount.{waiting_of}
use Rattle.queue_record.proofs.tally.waiting_count.Given as goal

abbrev pub invariant-loop-place : goal.invariant-loop-place
invariant-loop-place l =
    record {
      whole : l.count + waiting_of l.selection (occupied l.place (drop l.place l.slots)) ≡ waiting_of l.selection (occupied 0 l.slots);
      small : l.count ≤ l.place;
    }

-- what the rest makes of the record reached is what the whole makes of the first one
use Rattle.std.proofs.Common.{◌≡◌, ◌+◌, drop}
use Rattle.queue_births.specs.Sequences.{grown_all}
use Rattle.queue_births.proofs.sequences.grow_all.Given as goal

abbrev pub invariant-loop-number : goal.invariant-loop-number
invariant-loop-number l =
    record {
      made : grown_all l.after (drop l.number-index l.numbers) ≡ grown_all l.fn.q l.numbers;
      count : l.after.count ≡ l.fn.q.count + l.number-index;
    }

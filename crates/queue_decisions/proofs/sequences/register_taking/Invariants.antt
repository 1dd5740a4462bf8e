-- the first i are copied, and what is decided of the rest is what is decided of the whole
use Rattle.std.proofs.Common.{◌≡◌, ◌+◌}
use Rattle.queue_decisions.specs.Sequences.{copied}
use Rattle.queue_decisions.proofs.SequenceLaws.{SoFar}
use Rattle.queue_decisions.proofs.sequences.register_taking.Given as goal

abbrev pub invariant-loop-i : goal.invariant-loop-i
invariant-loop-i l =
    record {
      numbers : l.numbers ≡ copied l.given l.i;
      tokens : l.tokens ≡ l.fn.count + l.i;
      so_far : SoFar l.given l.fn.count l.tokens l.i;
    }

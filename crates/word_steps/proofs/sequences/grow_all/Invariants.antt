-- number by number, each stored on what the one before left
use Rattle.word_steps.proofs.SequenceLaws.{Stored}
use Rattle.word_steps.proofs.sequences.grow_all.Given as goal

abbrev pub invariant-loop-number : goal.invariant-loop-number
invariant-loop-number l = Stored l.fn.queue l.numbers l.queue l.number-index

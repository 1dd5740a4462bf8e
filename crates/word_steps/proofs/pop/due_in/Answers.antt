-- By the words' own selection, and what was found beside it
use Rattle.std.proofs.Common.{rules}
use Rattle.queue_words.specs.Words.{queue_of}
use Rattle.word_steps.proofs.pop.due_in.Goals as goal

pub returns : goal.returns
unfolding queue_of
returns c = search rules

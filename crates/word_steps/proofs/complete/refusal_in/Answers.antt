-- Of the selection that the words have
use Rattle.std.proofs.Common.{rules}
use Rattle.queue_words.specs.Words.{queue_of}
use Rattle.word_steps.proofs.complete.refusal_in.Goals as goal

pub returns : goal.returns
unfolding queue_of
returns c = search rules

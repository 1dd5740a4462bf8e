-- By the words' own selection
use Rattle.std.proofs.Common.{rules}
use Rattle.queue_words.specs.Words.{queue_of}
use Rattle.word_steps.proofs.retry.again_in.Goals as goal

pub returns : goal.returns
unfolding queue_of
returns c = search rules

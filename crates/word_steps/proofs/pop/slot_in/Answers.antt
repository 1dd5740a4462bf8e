-- A slot is a word
use mathlib.Core.Path.{sym}
use Rattle.queue_words.proofs.CheckParts.{slot_word}
use Rattle.word_steps.proofs.pop.slot_in.Goals as goal

pub returns : goal.returns
returns c = sym (slot_word c.args.w.now c.args.token c.requires)

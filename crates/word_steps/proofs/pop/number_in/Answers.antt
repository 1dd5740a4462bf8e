-- In the ready ticket's slot, or in that of the token found: each is one of the 64
use mathlib.Core.Path.{sym, ◌∙◌}
use Rattle.queue_words.proofs.OnWords.{own_place}
use Rattle.word_steps.proofs.PopLaws.{found_place}
use Rattle.word_steps.proofs.pop.number_in.Goals as goal

pub slot_in-requires : goal.slot_in-requires
slot_in-requires c = own_place c.args.w.now c.requires.0 _ (sym c.requires.1 ∙ c.in-Some.is)

pub slot_in-requires-2 : goal.slot_in-requires-2
slot_in-requires-2 c = found_place c.args.w.now c.requires.0 _ (sym c.requires.2 ∙ c.in-Some-found.is)

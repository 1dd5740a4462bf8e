-- Refused, or the stage moved
use mathlib.Core.Path.{sym, ◌∙◌}
use Rattle.queue_words.proofs.StageWords.{cancel_unsound}
use Rattle.gulberzan_c.proofs.stages.gulberzan_cancel.Goals as goal

pub returns-then-not-sound : goal.returns-then-not-sound
returns-then-not-sound c = rw c.into.ensures (sym (cancel_unsound _ (sym c.sound.ensures ∙ c.if-not-sound.true)))

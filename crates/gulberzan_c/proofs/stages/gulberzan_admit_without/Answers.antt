-- Refused, or told
use mathlib.Core.Path.{sym, ◌∙◌}
use Rattle.queue_words.specs.Exported.{admit_without_on}
use Rattle.queue_words.proofs.StageWords.{admit_without_unsound}
use Rattle.gulberzan_c.proofs.stages.gulberzan_admit_without.Goals as goal

pub returns-then-not-sound : goal.returns-then-not-sound
returns-then-not-sound c = rw c.into.ensures (sym (admit_without_unsound _ (sym c.sound.ensures ∙ c.if-not-sound.true)))

pub returns : goal.returns
unfolding admit_without_on
returns c = c.admit_in.ensures

-- Refused, or the call on sound words
use mathlib.Core.Path.{sym, ◌∙◌}
use Rattle.word_steps.proofs.BirthLaws.{land_unsound}
use Rattle.gulberzan_c.proofs.births.gulberzan_land.Goals as goal

pub returns-then-not-sound : goal.returns-then-not-sound
returns-then-not-sound c = rw c.into.ensures (sym (land_unsound _ _ (sym c.sound.ensures ∙ c.if-not-sound.true)))

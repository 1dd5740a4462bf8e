-- Refused, or the call on sound words
use mathlib.Core.Path.{sym, ◌∙◌}
use Rattle.word_steps.proofs.CompleteLaws.{complete_unsound}
use Rattle.gulberzan_c.proofs.attempts.gulberzan_complete.Goals as goal

pub returns-then-not-sound : goal.returns-then-not-sound
returns-then-not-sound c = rw c.into.ensures (sym (complete_unsound _ _ _ _ (sym c.sound.ensures ∙ c.if-not-sound.true)))

-- Refused, or the call on sound words
use mathlib.Core.Path.{sym, ◌∙◌}
use Rattle.word_steps.proofs.RetryLaws.{retry_unsound}
use Rattle.gulberzan_c.proofs.attempts.gulberzan_retry.Goals as goal

pub returns-then-not-sound : goal.returns-then-not-sound
returns-then-not-sound c = rw c.into.ensures (sym (retry_unsound _ (sym c.sound.ensures ∙ c.if-not-sound.true)))

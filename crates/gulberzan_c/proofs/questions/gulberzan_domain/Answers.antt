-- Refused, or told
use mathlib.Core.Path.{sym, ◌∙◌}
use Rattle.queue_words.proofs.QuestionWords.{domain_unsound, domain_sound}
use Rattle.gulberzan_c.proofs.questions.gulberzan_domain.Goals as goal

pub returns-then-not-sound : goal.returns-then-not-sound
returns-then-not-sound c = rw c.into.ensures (sym (domain_unsound _ (sym c.sound.ensures ∙ c.if-not-sound.true)))

pub returns : goal.returns
returns c = sym (domain_sound _ (sym c.sound.ensures ∙ c.if-not-sound.false))

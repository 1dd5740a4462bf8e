-- Refused, or told
use Prim.Native.Nat.{ℕ}
use mathlib.Core.Path.{sym, ◌∙◌}
use mathlib.Core.Bool.{Bool}
use mathlib.Core.List.{List}
use Rattle.queue_questions.specs.Questions.{can_retry_told}
use Rattle.queue_words.specs.Words.{selection_in, queue_of}
use Rattle.queue_steps.specs.Attempts.{retry_allowed}
use Rattle.queue_words.specs.Exported.{can_retry_on}
use Rattle.queue_words.proofs.QuestionWords.{told_unsound, told_sound}
use Rattle.gulberzan_c.proofs.questions.gulberzan_can_retry.Goals as goal

-- what is asked of the words
abbrev asks : List ℕ → Bool
asks ws = retry_allowed (queue_of ws) (selection_in ws)

pub returns-then-not-sound : goal.returns-then-not-sound
unfolding can_retry_on can_retry_told queue_of
returns-then-not-sound c = rw c.into.ensures (sym (told_unsound _ (asks c.args.queue.now) (sym c.sound.ensures ∙ c.if-not-sound.true)))

pub returns : goal.returns
unfolding can_retry_on can_retry_told queue_of
returns c = rw (c.yes_word.ensures, c.retry_allowed.ensures) (sym (told_sound _ (asks c.args.queue.now) (sym c.sound.ensures ∙ c.if-not-sound.false)))

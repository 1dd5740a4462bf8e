-- Refused, or told
use Prim.Native.Nat.{ℕ}
use mathlib.Core.Path.{sym, ◌∙◌}
use mathlib.Core.Bool.{Bool}
use mathlib.Core.List.{List}
use Rattle.queue_questions.specs.Questions.{has_failed_told}
use Rattle.queue_words.specs.Layout.{at_failed}
use Rattle.queue_words.specs.Words.{word, mark_at, queue_of}
use Rattle.queue_words.specs.Exported.{has_failed_on}
use Rattle.queue_words.proofs.QuestionWords.{told_unsound, told_sound}
use Rattle.gulberzan_c.proofs.questions.gulberzan_has_failed.Goals as goal

-- what is asked of the words
abbrev asks : List ℕ → Bool
asks ws = mark_at (word ws at_failed)

pub returns-then-not-sound : goal.returns-then-not-sound
unfolding has_failed_on has_failed_told queue_of
returns-then-not-sound c = rw c.into.ensures (sym (told_unsound _ (asks c.args.queue.now) (sym c.sound.ensures ∙ c.if-not-sound.true)))

pub returns : goal.returns
unfolding has_failed_on has_failed_told queue_of
returns c = rw c.yes_word.ensures (sym (told_sound _ (asks c.args.queue.now) (sym c.sound.ensures ∙ c.if-not-sound.false)))

-- Refused, or told
use Prim.Native.Nat.{ℕ}
use mathlib.Core.Path.{sym, ◌∙◌}
use mathlib.Core.Bool.{Bool}
use mathlib.Core.List.{List}
use Rattle.queue_questions.specs.Questions.{is_pending_told}
use Rattle.queue_words.specs.Layout.{at_phase}
use Rattle.queue_words.specs.Words.{word, queue_of}
use Rattle.stage.specs.Phases.{is_pending, phase_at}
use Rattle.queue_words.specs.Exported.{is_pending_on}
use Rattle.queue_words.proofs.QuestionWords.{told_unsound, told_sound}
use Rattle.gulberzan_c.proofs.questions.gulberzan_is_pending.Goals as goal

-- what is asked of the words
abbrev asks : List ℕ → Bool
asks ws = is_pending (phase_at (word ws at_phase))

pub returns-then-not-sound : goal.returns-then-not-sound
unfolding is_pending_on is_pending_told queue_of
returns-then-not-sound c = rw c.into.ensures (sym (told_unsound _ (asks c.args.queue.now) (sym c.sound.ensures ∙ c.if-not-sound.true)))

pub returns : goal.returns
unfolding is_pending_on is_pending_told queue_of
returns c = rw (c.yes_word.ensures, c.is_pending.ensures, c.from.ensures) (sym (told_sound _ (asks c.args.queue.now) (sym c.sound.ensures ∙ c.if-not-sound.false)))

-- Refused, or told
use Prim.Native.Nat.{ℕ}
use mathlib.Core.Path.{sym, ◌∙◌}
use mathlib.Core.Bool.{Bool}
use mathlib.Core.List.{List}
use Rattle.queue_questions.specs.Questions.{nothing_left, is_empty_told}
use Rattle.queue_record.specs.Waiting.{occupied, others}
use Rattle.queue_words.specs.Words.{slots_in, selection_in, queue_of}
use Rattle.queue_words.specs.Exported.{is_empty_on}
use Rattle.queue_words.proofs.QuestionWords.{told_unsound, told_sound}
use Rattle.gulberzan_c.proofs.questions.gulberzan_is_empty.Goals as goal

-- what is asked of the words
abbrev asks : List ℕ → Bool
asks ws = nothing_left (selection_in ws) (others (selection_in ws) (occupied 0 (slots_in ws)))

pub returns-then-not-sound : goal.returns-then-not-sound
unfolding is_empty_on is_empty_told queue_of
returns-then-not-sound c = rw c.into.ensures (sym (told_unsound _ (asks c.args.queue.now) (sym c.sound.ensures ∙ c.if-not-sound.true)))

pub returns : goal.returns
unfolding is_empty_on is_empty_told queue_of
returns c = rw (c.yes_word.ensures, c.nothing_left.ensures) (sym (told_sound _ (asks c.args.queue.now) (sym c.sound.ensures ∙ c.if-not-sound.false)))

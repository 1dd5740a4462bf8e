-- Refused, or told
use Prim.Native.Nat.{ℕ}
use mathlib.Core.Path.{sym, ◌∙◌}
use mathlib.Core.Bool.{Bool}
use mathlib.Core.List.{List}
use Rattle.queue_questions.specs.Questions.{finishable, committed, can_finish_told}
use Rattle.queue_words.specs.Layout.{at_phase}
use Rattle.queue_words.specs.Words.{word, selection_in, queue_of}
use Rattle.stage.specs.Phases.{phase_at}
use Rattle.queue_words.specs.Exported.{can_finish_on}
use Rattle.queue_words.proofs.QuestionWords.{told_unsound, told_sound}
use Rattle.queue_words.proofs.OnWords.{few_bindings}
use Rattle.gulberzan_c.proofs.questions.gulberzan_can_finish.Goals as goal

-- what is asked of the words
abbrev asks : List ℕ → List ℕ → Bool
asks ws target = finishable (selection_in ws) (phase_at (word ws at_phase)) target (committed (queue_of ws))

pub returns-then-not-sound : goal.returns-then-not-sound
unfolding can_finish_on can_finish_told queue_of
returns-then-not-sound c = rw c.into.ensures (sym (told_unsound _ (asks c.args.queue.now c.args.target.now) (sym c.sound.ensures ∙ c.if-not-sound.true)))

pub finish_allowed-requires : goal.finish_allowed-requires
finish_allowed-requires c = few_bindings _ (sym c.sound.ensures ∙ c.if-not-sound.false)

pub returns : goal.returns
unfolding can_finish_on can_finish_told queue_of
returns c = rw (c.yes_word.ensures, c.finish_allowed.ensures) (sym (told_sound _ (asks c.args.queue.now c.args.target.now) (sym c.sound.ensures ∙ c.if-not-sound.false)))

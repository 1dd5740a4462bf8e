-- Refused, or the stage moved as the target says
use mathlib.Core.Path.{sym, ap, ◌∙◌}
use Rattle.queue_words.specs.Exported.{admit_by, admit_on}
use Rattle.queue_words.proofs.OnWords.{few_bindings}
use Rattle.queue_words.proofs.StageWords.{admit_unsound}
use Rattle.gulberzan_c.proofs.stages.gulberzan_admit.Goals as goal

pub returns-then-not-sound : goal.returns-then-not-sound
returns-then-not-sound c = rw c.into.ensures (sym (admit_unsound _ (sym c.sound.ensures ∙ c.if-not-sound.true) c.args.target.now))

pub target_matches-matched-requires : goal.target_matches-matched-requires
target_matches-matched-requires c = few_bindings c.args.queue.now (sym c.sound.ensures ∙ c.if-not-sound.false)

pub returns : goal.returns
unfolding admit_on
returns c = c.admit_in.ensures ∙ ap (admit_by c.args.queue.now) c.target_matches-matched.ensures

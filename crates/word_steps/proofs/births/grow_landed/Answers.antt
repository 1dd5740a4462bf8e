use Rattle.std.proofs.Common.{◌≡◌, sym, true, ℕ, ◌<◌, List, slice_set}
use Rattle.stage.specs.Phases.{phase_after, phase_number, phase_at}
use Rattle.stage.specs.declared.phases.Event.TheVariants.{Land}
use Rattle.queue_births.specs.Births.{grown, landed_to}
use Rattle.queue_words.specs.Layout.{at_count, at_phase}
use Rattle.queue_words.specs.Words.{word, queue_of, words_of, is_sound}
use Rattle.queue_words.proofs.Setters.{phase_set}
use Rattle.word_steps.proofs.BirthLaws.{grown_held}
use Rattle.word_steps.proofs.births.grow_landed.Goals as goal

-- the phase that the words had, moved and put behind the birth
put : (ws : List ℕ) (n : ℕ) → is_sound ws ≡ true → word ws at_count < 64
    → slice_set (words_of (grown (queue_of ws) n)) at_phase (phase_number (phase_after (phase_at (word ws at_phase)) Land)) ≡ words_of (landed_to (queue_of ws) n)
unfolding queue_of
put ws n s h = sym (phase_set (grown (queue_of ws) n) (grown_held ws s n h).slots (phase_after (phase_at (word ws at_phase)) Land))

pub returns : goal.returns
returns c = rw (c.from.ensures, c.next_phase.ensures, c.grow.ensures, c.from-phase.ensures) (put c.args.queue.now c.args.number c.requires.0 c.requires.1)

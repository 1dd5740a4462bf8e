-- Admit, end and cancel on the words
use Prim.Native.Nat.{ℕ}
use mathlib.Core.Path.{◌≡◌, ap, ◌∙◌}
use mathlib.Core.Bool.{Bool, true, false, not}
use mathlib.Core.List.{List}
use Rattle.stage.specs.Phases.{phase_after, is_pending, phase_at}
use Rattle.stage.specs.declared.phases.Phase.{Phase}
use Rattle.stage.specs.declared.phases.Event.TheVariants.{End, Cancel}
use Rattle.choice.proofs.Ways.{hit, miss}
use Rattle.queue_record.specs.declared.refusal.Refusal.TheVariants.{Broken}
use Rattle.queue_record.specs.Record.{with_phase}
use Rattle.queue_stages.specs.Stages.{after_admit, admitted, ended, cancelled_by}
use Rattle.queue_words.specs.Layout.{at_phase}
use Rattle.queue_words.specs.Words.{word, queue_of, words_of, is_sound}
use Rattle.queue_words.specs.Exported.{admit_by, Exported, refused_on, stage_exported, cancel_exported, admit_on, admit_without_on, end_on, cancel_on}
use Rattle.queue_words.specs.InPlace.{said_in}
use Rattle.queue_words.proofs.QuestionWords.{told_word}
use Rattle.queue_words.proofs.OnWords.{unsound_on, sound_on, not_broken}

module _ (ws : List ℕ) where
  -- the phase that the words hold
  abbrev pub phase_in : Phase
  phase_in = phase_at (word ws at_phase)

  -- the words with the stage moved, and yes or no
  abbrev moved_to : Bool → Phase → Exported
  moved_to told p = said_in (words_of (with_phase (queue_of ws) p)) told

  module _ (u : is_sound ws ≡ false) where
    pub admit_unsound : (target : List ℕ) → admit_on ws target ≡ refused_on Broken 0 ws
    unfolding admit_on admitted
    admit_unsound target = unsound_on ws 0 _ u (λ w. ap stage_exported (hit _ (ap not w)))

    pub admit_without_unsound : admit_without_on ws ≡ refused_on Broken 0 ws
    unfolding admit_without_on admitted
    admit_without_unsound = unsound_on ws 0 _ u (λ w. ap stage_exported (hit _ (ap not w)))

    pub end_unsound : end_on ws ≡ refused_on Broken 0 ws
    unfolding end_on ended
    end_unsound = unsound_on ws 0 _ u (λ w. ap stage_exported (hit _ (ap not w)))

    pub cancel_unsound : cancel_on ws ≡ refused_on Broken 0 ws
    unfolding cancel_on cancelled_by
    cancel_unsound = unsound_on ws 0 _ u (λ w. ap cancel_exported (hit _ (ap not w)))

  module _ (s : is_sound ws ≡ true) where
    pub admit_by_moved : (m : Bool) → admit_by ws m ≡ moved_to (is_pending (after_admit phase_in m)) (after_admit phase_in m)
    unfolding admitted queue_of
    admit_by_moved m = sound_on ws s 0 _ ∙ (ap stage_exported (miss _ (not_broken ws s)) ∙ told_word _ (is_pending (after_admit phase_in m)))

    pub end_moved : end_on ws ≡ moved_to (is_pending phase_in) (phase_after phase_in End)
    unfolding end_on ended queue_of
    end_moved = sound_on ws s 0 _ ∙ (ap stage_exported (miss _ (not_broken ws s)) ∙ told_word _ (is_pending phase_in))

    pub cancel_moved : cancel_on ws ≡ moved_to false (phase_after phase_in Cancel)
    unfolding cancel_on cancelled_by queue_of
    cancel_moved = sound_on ws s 0 _ ∙ ap cancel_exported (miss _ (not_broken ws s))

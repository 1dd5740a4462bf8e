-- Register and land on words: by what refuses them, and what they store
use Prim.Native.Nat.{ℕ, ◌+◌, ◌<◌}
use mathlib.Core.Path.{◌≡◌, ap, ◌∙◌}
use mathlib.Core.Bool.{true, false, not}
use mathlib.Core.List.{List}
use lib.ListN.{set}
use Rattle.stage.specs.Phases.{phase_at}
use Rattle.choice.proofs.Ways.{hit, miss}
use Rattle.queue_record.specs.Refusals.{done}
use Rattle.std.specs.Prelude.{Option, Some, None}
use Rattle.queue_record.specs.declared.refusal.Refusal.{Refusal}
use Rattle.queue_record.specs.declared.refusal.Refusal.TheVariants.{Broken}
use Rattle.queue_record.specs.declared.record.Queue.{Queue}
use Rattle.queue_decisions.specs.Births.{register_refusal, land_refusal}
use Rattle.queue_births.specs.Births.{grown, born_by, registered, landed_to, landed}
use Rattle.queue_words.specs.Layout.{at_slots, at_count, at_phase}
use Rattle.queue_words.specs.Words.{word, queue_of, words_of, is_sound}
use Rattle.queue_words.specs.Exported.{exported, answer_of, refused_on, on_record, born_exported, register_on, land_on}
use Rattle.queue_words.proofs.Setters.{Held, hold_slot, hold_count}
use Rattle.queue_words.proofs.OnWords.{unsound_on, sound_on, not_broken, same_words_lem, held}
use Rattle.queue_record.specs.declared.answered.Answered.{Answered}
use Rattle.queue_births.specs.Types.{Registered}

module _ (ws : List ℕ) (s : is_sound ws ≡ true) (number : ℕ) where
  pub register_by : registered (queue_of ws) number ≡ born_by (queue_of ws) number (grown (queue_of ws) number) (register_refusal number (word ws at_count))
  unfolding registered queue_of
  register_by = miss _ (not_broken ws s)

  pub land_by : landed (queue_of ws) number ≡ born_by (queue_of ws) number (landed_to (queue_of ws) number) (land_refusal number (phase_at (word ws at_phase)) (word ws at_count))
  unfolding landed queue_of
  land_by = miss _ (not_broken ws s)

  -- what a birth says on the words
  module _ (r : Answered Registered) (after : Queue) (n : Option Refusal) (e : r ≡ born_by (queue_of ws) number after n) where
    birth_no : {f : Refusal} → n ≡ Some f → on_record ws number (born_exported r) ≡ refused_on f number ws
    birth_no {f} z = sound_on ws s number _ ∙ (ap born_exported (e ∙ ap (born_by (queue_of ws) number after) z) ∙ ap (refused_on f number) (same_words_lem ws s))

    birth_yes : n ≡ None → on_record ws number (born_exported r) ≡ exported done (answer_of 1 (word ws at_count)) (words_of after)
    unfolding queue_of
    birth_yes z = sound_on ws s number _ ∙ ap born_exported (e ∙ ap (born_by (queue_of ws) number after) z)

  module _ (z : register_refusal number (word ws at_count) ≡ None) where
    pub register_yes : register_on ws number ≡ exported done (answer_of 1 (word ws at_count)) (words_of (grown (queue_of ws) number))
    unfolding register_on
    register_yes = birth_yes _ _ _ register_by z

  pub register_no : {f : Refusal} → register_refusal number (word ws at_count) ≡ Some f → register_on ws number ≡ refused_on f number ws
  unfolding register_on
  register_no z = birth_no _ _ _ register_by z

  module _ (z : land_refusal number (phase_at (word ws at_phase)) (word ws at_count) ≡ None) where
    pub land_yes : land_on ws number ≡ exported done (answer_of 1 (word ws at_count)) (words_of (landed_to (queue_of ws) number))
    unfolding land_on
    land_yes = birth_yes _ _ _ land_by z

  pub land_no : {f : Refusal} → land_refusal number (phase_at (word ws at_phase)) (word ws at_count) ≡ Some f → land_on ws number ≡ refused_on f number ws
  unfolding land_on
  land_no z = birth_no _ _ _ land_by z

  -- the stores of a birth
  pub grown_held : word ws at_count < 64 → Held (grown (queue_of ws) number) (set (set ws (at_slots + word ws at_count) number) at_count (word ws at_count + 1))
  unfolding queue_of
  grown_held room = hold_count (hold_slot (held ws s) (word ws at_count) number room) _

-- words that are not sound are refused with 1
module _ (ws : List ℕ) (number : ℕ) (u : is_sound ws ≡ false) where
  pub register_unsound : register_on ws number ≡ refused_on Broken number ws
  unfolding register_on registered
  register_unsound = unsound_on ws number _ u (λ w. ap born_exported (hit _ (ap not w)))

  pub land_unsound : land_on ws number ≡ refused_on Broken number ws
  unfolding land_on landed
  land_unsound = unsound_on ws number _ u (λ w. ap born_exported (hit _ (ap not w)))

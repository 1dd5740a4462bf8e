-- Complete on words: by what refuses it; where nothing does, the ticket names one of the 64 slots
use Prim.Native.Nat.{ℕ, ◌<◌}
use mathlib.Core.Path.{◌≡◌, ap, ◌∙◌}
use mathlib.Core.Bool.{true, false, not}
use mathlib.Core.List.{List}
use Rattle.choice.proofs.Ways.{hit, miss}
use Rattle.std.specs.Prelude.{Option, Some, None}
use Rattle.queue_record.specs.Refusals.{done}
use Rattle.queue_record.specs.declared.refusal.Refusal.{Refusal}
use Rattle.queue_record.specs.declared.refusal.Refusal.TheVariants.{Broken}
use Rattle.queue_record.specs.declared.record.Ticket.{Ticket}
use Rattle.queue_decisions.specs.Answers.{complete_refusal}
use Rattle.queue_decisions.proofs.AnswerLaws.{out_selected, complete_fine}
use Rattle.queue_steps.specs.Attempts.{answered, completed_by, completed}
use Rattle.queue_words.specs.Layout.{at_issued}
use Rattle.queue_words.specs.Words.{word, mark_at, selection_in, queue_of, words_of, is_sound}
use Rattle.queue_words.specs.Exported.{Exported, exported, answer_of, refused_on, on_record, complete_exported, complete_on}
use Rattle.queue_words.proofs.OnWords.{unsound_on, sound_on, not_broken, same_words_lem, own_place}

module _ (ws : List ℕ) (s : is_sound ws ≡ true) (t : Ticket) (outcome kept : ℕ) where
  -- what refuses the answer, as the words say it
  abbrev refusal_in : Option Refusal
  refusal_in = complete_refusal (mark_at (word ws at_issued)) (selection_in ws) t outcome kept

  pub complete_by : completed (queue_of ws) t outcome kept ≡ completed_by (queue_of ws) t outcome kept refusal_in
  unfolding completed queue_of
  complete_by = miss _ (not_broken ws s)

  abbrev whole : Exported
  whole = on_record ws kept (complete_exported (completed (queue_of ws) t outcome kept))

  pub complete_no : {f : Refusal} → refusal_in ≡ Some f → whole ≡ refused_on f kept ws
  complete_no {f} z =
      sound_on ws s kept _
      ∙ (ap complete_exported (complete_by ∙ ap (completed_by (queue_of ws) t outcome kept) z) ∙ ap (refused_on f kept) (same_words_lem ws s))

  pub complete_yes : refusal_in ≡ None → whole ≡ exported done (answer_of 1 0) (words_of (answered (queue_of ws) t.token outcome kept))
  complete_yes z = sound_on ws s kept _ ∙ ap complete_exported (complete_by ∙ ap (completed_by (queue_of ws) t outcome kept) z)

  pub settle_place : refusal_in ≡ None → t.token < 64
  settle_place z = own_place ws s t (out_selected (mark_at (word ws at_issued)) (selection_in ws) t (complete_fine (mark_at (word ws at_issued)) (selection_in ws) t outcome kept z).out)

-- words that are not sound are refused with 1
pub complete_unsound : (ws ticket : List ℕ) (outcome kept : ℕ) → is_sound ws ≡ false → complete_on ws ticket outcome kept ≡ refused_on Broken kept ws
unfolding complete_on completed
complete_unsound ws ticket outcome kept u = unsound_on ws kept _ u (λ w. ap complete_exported (hit _ (ap not w)))

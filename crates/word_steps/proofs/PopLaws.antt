-- Pop on words: by what is due, which names one of the 64 slots
use Prim.Native.Nat.{ℕ, ◌<◌}
use mathlib.Core.Path.{◌≡◌, ap, ◌∙◌}
use mathlib.Core.Bool.{true, false, not}
use mathlib.Core.List.{List}
use native.Mathlib.Omega.{arith}
use lib.ListN.{length}
use Rattle.choice.proofs.Ways.{hit, miss}
use Rattle.queue_record.specs.Refusals.{done}
use Rattle.queue_record.specs.declared.refusal.Refusal.{Refusal}
use Rattle.queue_record.specs.declared.refusal.Refusal.TheVariants.{Broken}
use Rattle.queue_record.specs.declared.record.Ticket.{Ticket}
use Rattle.queue_record.proofs.Fit.{selected_below}
use Rattle.queue_decisions.specs.Pops.{sought}
use Rattle.queue_decisions.proofs.PopLaws.{sought_below, due_below}
use Rattle.queue_steps.specs.Attempts.{due_in, popped_as, popped}
use Rattle.queue_words.specs.Words.{slots_in, selection_in, queue_of, is_sound}
use Rattle.queue_words.specs.Exported.{exported, answer_of, refused_on, pop_exported, pop_on}
use Rattle.queue_words.proofs.OnWords.{unsound_on, sound_on, sound_fits, not_broken, same_words_lem, held}
use Rattle.std.specs.Prelude.{Some, None, Ok, Err}
use Rattle.queue_decisions.specs.Types.{Due}

module _ (ws : List ℕ) (s : is_sound ws ≡ true) where
  pub pop_by : popped (queue_of ws) ≡ popped_as (queue_of ws) (due_in (queue_of ws))
  unfolding popped
  pop_by = miss _ (not_broken ws s)

  pub pop_on_lem : pop_on ws ≡ pop_exported (popped_as (queue_of ws) (due_in (queue_of ws)))
  unfolding pop_on
  pop_on_lem = sound_on ws s 0 _ ∙ ap pop_exported pop_by

  pub pop_due_on : {d : Due} → due_in (queue_of ws) ≡ d → pop_on ws ≡ pop_exported (popped_as (queue_of ws) d)
  pop_due_on e = pop_on_lem ∙ ap (λ (d : Due). pop_exported (popped_as (queue_of ws) d)) e

  pub pop_none : due_in (queue_of ws) ≡ Ok None → pop_on ws ≡ exported done (answer_of 1 0) ws
  pop_none e = pop_due_on e ∙ ap (exported done (answer_of 1 0)) (same_words_lem ws s)

  pub pop_no : {f : Refusal} → due_in (queue_of ws) ≡ Err f → pop_on ws ≡ refused_on f 0 ws
  pop_no {f} e = pop_due_on e ∙ ap (refused_on f 0) (same_words_lem ws s)

  pub due_place : (t : Ticket) (number next : ℕ) → due_in (queue_of ws) ≡ Ok (Some (t, number, next)) → t.token < 64
  due_place t number next e =
      let q = queue_of ws in
      let l : length q.slots ≡ 64 = (held ws s).slots in
      let b : t.token < length q.slots = due_below q.slots _ q.domain q.next t number next q.selection
      (λ o h. let k : o.token < 64 = selected_below q o (sound_fits ws s) h in omega arith) q.issued q.failed e in
      omega arith

  -- and so does the token found
  pub found_place : (token : ℕ) → sought (selection_in ws) (slots_in ws) ≡ Some token → token < 64
  unfolding queue_of
  found_place token e =
      let l : length (slots_in ws) ≡ 64 = (held ws s).slots in
      let b : token < length (slots_in ws) = sought_below (selection_in ws) (slots_in ws) token e in
      omega arith

-- words that are not sound are refused with 1
pub pop_unsound : (ws : List ℕ) → is_sound ws ≡ false → pop_on ws ≡ refused_on Broken 0 ws
unfolding pop_on popped
pop_unsound ws u = unsound_on ws 0 _ u (λ w. ap pop_exported (hit _ (ap not w)))

-- A ticket carried from pop to complete: as pop's answer has it and as the queue's own words have it, it is one, and settles what is out
use Prim.Native.Nat.{ℕ, ◌≤◌}
use mathlib.Core.Path.{◌≡◌, refl, sym, ap, subst, ◌∙◌}
use mathlib.Core.Bool.{Bool, true, false, not}
use mathlib.Core.List.{List, [], ◌∷◌}
use mathlib.Core.Logic.{◌⊎◌}
use native.Mathlib.Omega.{arith}
use lib.Dec.{eqb}
use lib.ListN.{length, length-set}
use Rattle.choice.proofs.Ways.{hit, miss, clash}
use Rattle.queue_record.specs.Refusals.{done}
use Rattle.queue_record.specs.declared.record.Queue.{Queue}
use Rattle.queue_record.proofs.Fit.{free_no_marks}
use Rattle.queue_steps.specs.Attempts.{due_in, issued_to, popped_as, popped, completed}
use Rattle.cleanup_queue.proofs.Upstream.{complete_succeeds}
use Rattle.queue_words.specs.Layout.{at_selected, at_ticket_domain, at_ticket_token, at_ticket_attempt, at_issued, at_case}
use Rattle.queue_words.specs.Words.{word, mark_at, ticket_of, selection_in, queue_of, words_of, is_sound}
use Rattle.queue_words.specs.Exported.{Exported, pop_exported, pop_on, complete_said, complete_on}
use Rattle.queue_words.proofs.Places.{word_behind}
use Rattle.queue_words.proofs.RoundTrip.{queue_sized}
use Rattle.queue_words.proofs.OnWords.{sound_fits, sound_on, sound_length}
use Rattle.library_laws.specs.CallWords.{pop}
use Rattle.library_laws.specs.Tickets.{own_ticket, told_ticket}
use Rattle.library_laws.proofs.Sounds.{sound_after}
use Rattle.std.specs.Prelude.{Some, None, Ok, Err}
use Rattle.queue_decisions.specs.Types.{Due}
use Rattle.queue_steps.specs.Types.{Completed}

-- ---- the queue's own ticket
module _ (ws : List ℕ) (s : is_sound ws ≡ true) (out : mark_at (word ws at_issued) ≡ true) where
  own_selected : selection_in ws ≡ Some (ticket_of (word ws at_ticket_domain) (word ws at_ticket_token) (word ws at_ticket_attempt))
  unfolding queue_of
  own_selected = by (eqb (word ws at_selected) 0) refl
    where
      by : (b : Bool) → eqb (word ws at_selected) 0 ≡ b → selection_in ws ≡ Some (ticket_of (word ws at_ticket_domain) (word ws at_ticket_token) (word ws at_ticket_attempt))
      by true e = clash out (free_no_marks (queue_of ws) (sound_fits ws s) (hit _ e)).1
      by false e = miss _ e

  pub own_settles : (outcome kept : ℕ) → outcome ≤ 1 → (outcome ≡ 1) ⊎ (kept ≡ 0) → (complete_on ws (own_ticket ws) outcome kept).result ≡ done
  unfolding complete_on queue_of
  own_settles outcome kept l k =
      ap (λ (x : Exported). x.result) (sound_on ws s kept _)
      ∙ ap (λ (a : Completed). (complete_said a (words_of (completed (queue_of ws) (ticket_of (word ws at_ticket_domain) (word ws at_ticket_token) (word ws at_ticket_attempt))
      outcome kept).queue)).result)
      (complete_succeeds (queue_of ws) (ticket_of (word ws at_ticket_domain) (word ws at_ticket_token) (word ws at_ticket_attempt)) outcome kept (sound_fits ws s) out own_selected l k)

-- ---- the ticket as pop answers it
module _ (ws : List ℕ) (s : is_sound ws ≡ true) where
  -- what is due is answered, and selected in the words that are left
  handed_out : pop_on ws ≡ pop_exported (popped_as (queue_of ws) (due_in (queue_of ws)))
  unfolding pop_on popped
  handed_out = sound_on ws s 0 _ ∙ ap pop_exported (miss _ (ap not (sound_fits ws s)))

  -- the ticket, and that it is out, in what a call says and leaves
  abbrev Out : Exported → Type 0
  Out x = word x.answer at_case ≡ 2 → (told_ticket x.answer ≡ own_ticket x.words) × (mark_at (word x.words at_issued) ≡ true)

  out : (d : Due) → Out (pop_exported (popped_as (queue_of ws) d))
  out (Ok None) e = let z : ◌≡◌ {A = ℕ} 1 2 = e in absurd (omega arith)
  out (Err n) e = let z : ◌≡◌ {A = ℕ} 0 2 = e in absurd (omega arith)
  out (Ok (Some (t, number, next))) e =
      let q : Queue = issued_to (queue_of ws) t next in
      let l : length q.slots ≡ 64 = length-set (queue_of ws).slots t.token 0 ∙ (queue_sized ws (sound_length ws s)).slots in
      let w : List ℕ = words_of q in (
        sym (ap (λ (x : ℕ). x ∷ word w at_ticket_token ∷ word w at_ticket_attempt ∷ []) (word_behind q l 2)
            ∙ (ap (λ (x : ℕ). t.domain ∷ x ∷ word w at_ticket_attempt ∷ []) (word_behind q l 3) ∙ ap (λ (x : ℕ). t.domain ∷ t.token ∷ x ∷ []) (word_behind q l 4))),
        ap mark_at (word_behind q l 6),
      )

  popped_out : Out (pop_on ws)
  popped_out = subst Out (sym handed_out) (out (due_in (queue_of ws)))

  pub told_is_own : word (pop_on ws).answer at_case ≡ 2 → told_ticket (pop_on ws).answer ≡ own_ticket (pop_on ws).words
  told_is_own w = (popped_out w).0

  out_behind : word (pop_on ws).answer at_case ≡ 2 → mark_at (word (pop_on ws).words at_issued) ≡ true
  out_behind w = (popped_out w).1

  pub carried_settles : word (pop_on ws).answer at_case ≡ 2 → (outcome kept : ℕ) → outcome ≤ 1 → (outcome ≡ 1) ⊎ (kept ≡ 0)
      → (complete_on (pop_on ws).words (told_ticket (pop_on ws).answer) outcome kept).result ≡ done
  carried_settles w outcome kept l k =
      ap (λ (t : List ℕ). (complete_on (pop_on ws).words t outcome kept).result) (told_is_own w)
      ∙ own_settles (pop_on ws).words (sound_after ws s pop) (out_behind w) outcome kept l k

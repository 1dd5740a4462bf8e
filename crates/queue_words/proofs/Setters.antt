-- A part set in the record is its words set in place
use Prim.Native.Nat.{ℕ, suc, ◌+◌, ◌<◌}
use mathlib.Core.Path.{◌≡◌, refl, sym, ap, ◌∙◌}
use mathlib.Core.Bool.{Bool}
use mathlib.Core.List.{List, ◌∷◌}
use native.Mathlib.Omega.{arith}
use lib.ListN.{length, set, length-set}
use lib.Seq.{set-append_left}
use Rattle.stage.specs.Phases.{phase_number}
use Rattle.stage.specs.declared.phases.Phase.{Phase}
use Rattle.queue_record.specs.Record.{with_next, with_slot, with_count, with_selection, with_failed, with_issued, with_phase}
use Rattle.queue_record.specs.declared.record.Queue.{Queue}
use Rattle.queue_words.specs.Layout.{at_next, at_slots, at_count, at_ticket_domain, at_ticket_token, at_ticket_attempt, at_failed, at_issued, at_phase}
use Rattle.queue_words.specs.Words.{kind_word, mark_word, selected_word, domain_word, token_word, attempt_word, words_behind, words_of}
use Rattle.queue_words.specs.InPlace.{set_selection}
use Rattle.queue_words.proofs.Places.{set_behind}
use Rattle.std.specs.Prelude.{Option}
use Rattle.queue_record.specs.declared.record.Ticket.{Ticket}

module _ (q : Queue) (l : length q.slots ≡ 64) where
  pub next_set : (n : ℕ) → words_of (with_next q n) ≡ set (words_of q) at_next n
  unfolding words_of
  next_set n = refl

  pub slot_set : (k n : ℕ) → k < 64 → words_of (with_slot q k n) ≡ set (words_of q) (at_slots + k) n
  unfolding words_of
  slot_set k n h =
      let e : at_slots + k ≡ suc (suc (suc k)) = omega arith in
      sym (ap (λ (i : ℕ). set (words_of q) i n) e ∙ ap (λ (r : List ℕ). kind_word q.kind ∷ q.domain ∷ q.next ∷ r) (set-append_left q.slots (words_behind q) k n (omega arith)))

  pub count_set : (n : ℕ) → words_of (with_count q n) ≡ set (words_of q) at_count n
  unfolding words_of
  count_set n = sym (set_behind q l (words_behind q) 0 n)

  pub selection_set : (s : Option Ticket) → words_of (with_selection q s) ≡ set_selection (words_of q) s
  unfolding words_of
  selection_set s =
      let b = words_behind q in
      let b₁ = set b 1 (selected_word s) in
      let b₂ = set b₁ 2 (domain_word s) in
      let b₃ = set b₂ 3 (token_word s) in
      sym (ap (λ (r : List ℕ). set (set (set r at_ticket_domain (domain_word s)) at_ticket_token (token_word s)) at_ticket_attempt (attempt_word s))
      (set_behind q l b 1 (selected_word s))
      ∙ (ap (λ (r : List ℕ). set (set r at_ticket_token (token_word s)) at_ticket_attempt (attempt_word s)) (set_behind q l b₁ 2 (domain_word s))
      ∙ (ap (λ (r : List ℕ). set r at_ticket_attempt (attempt_word s)) (set_behind q l b₂ 3 (token_word s)) ∙ set_behind q l b₃ 4 (attempt_word s))))

  pub failed_set : (b : Bool) → words_of (with_failed q b) ≡ set (words_of q) at_failed (mark_word b)
  unfolding words_of
  failed_set b = sym (set_behind q l (words_behind q) 5 (mark_word b))

  pub issued_set : (b : Bool) → words_of (with_issued q b) ≡ set (words_of q) at_issued (mark_word b)
  unfolding words_of
  issued_set b = sym (set_behind q l (words_behind q) 6 (mark_word b))

  pub phase_set : (p : Phase) → words_of (with_phase q p) ≡ set (words_of q) at_phase (phase_number p)
  unfolding words_of
  phase_set p = sym (set_behind q l (words_behind q) 7 (phase_number p))

-- ---- one store behind the other: a record, and its words
pub record Held (q : Queue) (ws : List ℕ) : Type 0 where
  pub words : words_of q ≡ ws
  pub slots : length q.slots ≡ 64

module _ {q : Queue} {ws : List ℕ} (h : Held q ws) where
  pub hold_next : (n : ℕ) → Held (with_next q n) (set ws at_next n)
  hold_next n = record { words = next_set q h.slots n ∙ ap (λ (r : List ℕ). set r at_next n) h.words; slots = h.slots }

  pub hold_slot : (k n : ℕ) → k < 64 → Held (with_slot q k n) (set ws (at_slots + k) n)
  hold_slot k n l = record { words = slot_set q h.slots k n l ∙ ap (λ (r : List ℕ). set r (at_slots + k) n) h.words; slots = length-set q.slots k n ∙ h.slots }

  pub hold_count : (n : ℕ) → Held (with_count q n) (set ws at_count n)
  hold_count n = record { words = count_set q h.slots n ∙ ap (λ (r : List ℕ). set r at_count n) h.words; slots = h.slots }

  pub hold_selection : (s : Option Ticket) → Held (with_selection q s) (set_selection ws s)
  hold_selection s = record { words = selection_set q h.slots s ∙ ap (λ (r : List ℕ). set_selection r s) h.words; slots = h.slots }

  pub hold_failed : (b : Bool) → Held (with_failed q b) (set ws at_failed (mark_word b))
  hold_failed b = record { words = failed_set q h.slots b ∙ ap (λ (r : List ℕ). set r at_failed (mark_word b)) h.words; slots = h.slots }

  pub hold_issued : (b : Bool) → Held (with_issued q b) (set ws at_issued (mark_word b))
  hold_issued b = record { words = issued_set q h.slots b ∙ ap (λ (r : List ℕ). set r at_issued (mark_word b)) h.words; slots = h.slots }

  pub hold_phase : (p : Phase) → Held (with_phase q p) (set ws at_phase (phase_number p))
  hold_phase p = record { words = phase_set q h.slots p ∙ ap (λ (r : List ℕ). set r at_phase (phase_number p)) h.words; slots = h.slots }

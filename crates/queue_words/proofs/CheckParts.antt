-- The check in parts: the marks, the places, the selection
use Prim.Native.Nat.{ℕ, ◌+◌, ◌<◌, ◌≤◌}
use mathlib.Core.Path.{◌≡◌, ap, ◌∙◌}
use mathlib.Core.Bool.{Bool, true, false, ◌&&◌, and-true}
use mathlib.Core.List.{List}
use native.Mathlib.Omega.{arith}
use lib.ListN.{get_or, drop}
use lib.Seq.{get_or-take, get_or-drop}
use borrow.Author.Tests.{eq-eqb, ne_eqb, leb-true}
use Rattle.choice.proofs.Ways.{hit, miss, pass, and_left}
use Rattle.queue_record.specs.WellFormed.{tokens_fit, bindings_fit, rest_zero, is_selected, ticket_fits, marks_fit, slot_fits, selected_fits, scope_fits, well_formed}
use Rattle.queue_record.specs.declared.record.Ticket.{Ticket}
use Rattle.queue_record.proofs.Fit.{ticket_below}
use Rattle.queue_words.specs.Layout.{at_domain, at_next, at_slots, at_count, at_selected, at_ticket_domain, at_ticket_token, at_ticket_attempt, at_failed, at_issued}
use Rattle.queue_words.specs.Words.{word, mark_at, ticket_of, slots_in, selection_in, selection_fits_by, places_fit, selection_fits, queue_of, encodes, is_sound}
use Rattle.std.specs.Prelude.{Some, None}

regroup : (e t b s n c l m f : Bool) → (e && (t && (b && (s && (n && (c && (l && (m && (f && true))))))))) ≡ (e && ((t && (b && (s && (n && c)))) && (l && (m && f))))
regroup e t b s n c l m f = grind arith

-- what the code asks, one part behind the other
pub sound_parts : (ws : List ℕ) → is_sound ws ≡ (encodes ws && (places_fit (queue_of ws) && selection_fits (queue_of ws)))
unfolding is_sound well_formed places_fit selection_fits
sound_parts ws =
    let q = queue_of ws in
    regroup (encodes ws) (tokens_fit q.count) (bindings_fit q.bound) (rest_zero q.count q.slots) (rest_zero q.bound q.bindings) (scope_fits q.kind q.bound q.phase)
    (ticket_fits q.domain q.count q.next q.selection) (marks_fit (is_selected q.selection) q.failed q.issued) (selected_fits q.failed q.issued q.slots q.selection)

-- a slot is a word
pub slot_word : (ws : List ℕ) (k : ℕ) → k < 64 → get_or (slots_in ws) k 0 ≡ word ws (at_slots + k)
slot_word ws k h = get_or-take 64 (drop at_slots ws) k 0 h ∙ get_or-drop at_slots ws k 0

-- where the places fit there are at most 64 tokens
pub places_few : (ws : List ℕ) → places_fit (queue_of ws) ≡ true → word ws at_count ≤ 64
unfolding places_fit queue_of
places_few ws h = leb-true _ _ (and_left (tokens_fit (word ws at_count)) _ h)

-- ---- the clauses on the selection, as the words say it
-- the ticket that the words hold
abbrev pub ticket_in : List ℕ → Ticket
ticket_in ws = ticket_of (word ws at_ticket_domain) (word ws at_ticket_token) (word ws at_ticket_attempt)

-- the two clauses on the marks and the slot of a selected ticket
abbrev both_fit : Bool → Bool → ℕ → Bool
both_fit failed issued number = marks_fit true failed issued && slot_fits failed issued number

module _ (ws : List ℕ) where
  pub free_in : word ws at_selected ≡ 0 → selection_in ws ≡ None
  free_in e = hit _ (eq-eqb _ _ e)

  pub own_in : (word ws at_selected ≡ 0 → ⊥) → selection_in ws ≡ Some (ticket_in ws)
  own_in n = miss _ (ne_eqb _ _ n)

  pub free_fits_lem : word ws at_selected ≡ 0 → selection_fits (queue_of ws) ≡ marks_fit false (mark_at (word ws at_failed)) (mark_at (word ws at_issued))
  unfolding selection_fits queue_of
  free_fits_lem e = ap (selection_fits_by (queue_of ws)) (free_in e) ∙ and-true (marks_fit false (mark_at (word ws at_failed)) (mark_at (word ws at_issued)))

  pub ticket_place : word ws at_count ≤ 64 → ticket_fits (word ws at_domain) (word ws at_count) (word ws at_next) (Some (ticket_in ws)) ≡ true → word ws at_ticket_token < 64
  ticket_place few t = ticket_below (word ws at_domain) (word ws at_count) (word ws at_next) (ticket_in ws) few t

  pub own_fits : (word ws at_selected ≡ 0 → ⊥) → word ws at_count ≤ 64 → ticket_fits (word ws at_domain) (word ws at_count) (word ws at_next) (Some (ticket_in ws)) ≡ true
      → selection_fits (queue_of ws) ≡ both_fit (mark_at (word ws at_failed)) (mark_at (word ws at_issued)) (word ws (at_slots + word ws at_ticket_token))
  unfolding selection_fits queue_of
  own_fits n few t =
      ap (selection_fits_by (queue_of ws)) (own_in n)
      ∙ (pass _ t ∙ ap (both_fit (mark_at (word ws at_failed)) (mark_at (word ws at_issued))) (slot_word ws (word ws at_ticket_token) (ticket_place few t)))

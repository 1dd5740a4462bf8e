-- Where nothing refuses an answer, its ticket is the selected one, and is out
use Prim.Native.Nat.{ℕ, ◌≤◌}
use mathlib.Core.Path.{◌≡◌, refl, ap, ◌∙◌}
use mathlib.Core.Bool.{Bool, true, false, not, ◌&&◌}
use native.Mathlib.Omega.{arith}
use borrow.Author.Tests.{eq-eqb, eqb-true, ltb-false, not-false}
use lib.Dec.{eqb, ltb}
use Rattle.choice.proofs.Ways.{pass, and_left, and_right, clash, if_by}
use Rattle.queue_record.specs.declared.refusal.Refusal.{Refusal}
use Rattle.queue_record.proofs.Refused.{some_none}
use Rattle.queue_record.specs.declared.record.Ticket.{Ticket}
use Rattle.queue_decisions.specs.Answers.{same_ticket, selects, is_out, keeps_on_done, complete_refusal}
use Rattle.std.specs.Prelude.{Option, Some, None}

abbrev made : ℕ → ℕ → ℕ → Ticket
made x y z = record { domain = x; token = y; attempt = z }

-- tickets that agree in every part are one
pub same_parts : (s t : Ticket) → s.domain ≡ t.domain → s.token ≡ t.token → s.attempt ≡ t.attempt → s ≡ t
same_parts s t d k a =
    ap (λ (x : ℕ). made x s.token s.attempt) d ∙ (ap (λ (x : ℕ). made t.domain x s.attempt) k ∙ ap (λ (x : ℕ). made t.domain t.token x) a)

same_one : (s t : Ticket) → same_ticket s t ≡ true → s ≡ t
same_one s t h =
    let r : (eqb s.token t.token && eqb s.attempt t.attempt) ≡ true = and_right (eqb s.domain t.domain) _ h in
    same_parts s t (eqb-true _ _ (and_left (eqb s.domain t.domain) _ h)) (eqb-true _ _ (and_left (eqb s.token t.token) _ r)) (eqb-true _ _ (and_right (eqb s.token t.token) _ r))

pub same_self : (t : Ticket) → same_ticket t t ≡ true
same_self t = pass _ (eq-eqb t.domain t.domain refl) ∙ (pass _ (eq-eqb t.token t.token refl) ∙ eq-eqb t.attempt t.attempt refl)

selects_one : (s : Option Ticket) (t : Ticket) → selects s t ≡ true → s ≡ Some t
selects_one None t h = clash h refl
selects_one (Some s) t h = ap Some (same_one s t h)

module _ (issued : Bool) (s : Option Ticket) (t : Ticket) where
  module _ (h : is_out issued s t ≡ true) where
    pub out_issued : issued ≡ true
    out_issued = and_left issued (selects s t) h

    pub out_selected : s ≡ Some t
    out_selected = selects_one s t (and_right issued (selects s t) h)

  -- what an answer is that nothing refuses
  pub record Answers (outcome kept : ℕ) : Type 0 where
    pub known : outcome ≤ 1
    pub out : is_out issued s t ≡ true
    pub keeps : keeps_on_done outcome kept ≡ false

  module _ (outcome kept : ℕ) where
    abbrev Fine : Option Refusal → Type 0
    Fine r = r ≡ None → Answers outcome kept

    pub complete_fine : Fine (complete_refusal issued s t outcome kept)
    unfolding complete_refusal
    complete_fine =
        if_by Fine (ltb 1 outcome) _ _ (λ _ z. some_none z)
        (λ o. if_by Fine (not (is_out issued s t)) _ _ (λ _ z. some_none z)
        (λ u. if_by Fine (keeps_on_done outcome kept) _ _ (λ _ z. some_none z) (λ k _. record { known = ltb-false _ _ o; out = not-false _ u; keeps = k })))

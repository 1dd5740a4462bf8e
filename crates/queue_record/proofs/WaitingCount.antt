-- The count of the waiting tokens, slot by slot
use Prim.Native.Nat.{ℕ, suc, ◌+◌, ◌≤◌, ◌<◌}
use mathlib.Core.Path.{◌≡◌, refl, ap, ◌∙◌}
use mathlib.Core.Bool.{Bool, true, false}
use mathlib.Core.List.{List, ◌∷◌}
use native.Mathlib.Omega.{arith}
use lib.Dec.{eqb}
use lib.ListN.{length, get_or, drop, drop_of_length-le}
use lib.Seq.{drop-cons}
use Rattle.choice.specs.Choice.{when◌then◌else◌}
use Rattle.choice.proofs.Ways.{if_by}
use Rattle.queue_record.specs.Waiting.{occupied, without, others, share_of, share}
use Rattle.std.specs.Prelude.{Option, Some, None}
use Rattle.queue_record.specs.declared.record.Ticket.{Ticket}

-- how many of these places wait
unfoldable pub waiting_of : Option Ticket → List ℕ → ℕ
waiting_of s ks = length (others s ks)

other_one : (s : Option Ticket) (k : ℕ) (ks : List ℕ) → waiting_of s (k ∷ ks) ≡ share_of k s + waiting_of s ks
unfolding waiting_of
other_one None k ks = omega arith
other_one (Some t) k ks = by (eqb k t.token) refl
  where
    by : (e : Bool) → eqb k t.token ≡ e
        → length (when eqb k t.token then without t.token ks else k ∷ without t.token ks) ≡ (when eqb k t.token then 0 else 1) + length (without t.token ks)
    by true e = rw e (omega arith)
    by false e = rw e (omega arith)

one_more : (s : Option Ticket) (k x : ℕ) (ks : List ℕ) → waiting_of s (when eqb x 0 then ks else k ∷ ks) ≡ share s k x + waiting_of s ks
one_more s k x ks = by (eqb x 0) refl
  where
    by : (z : Bool) → eqb x 0 ≡ z → waiting_of s (when eqb x 0 then ks else k ∷ ks) ≡ (when eqb x 0 then 0 else share_of k s) + waiting_of s ks
    by true z = rw z (omega arith)
    by false z = rw z (other_one s k ks)

part_small : (s : Option Ticket) (k : ℕ) → share_of k s ≤ 1
part_small None k = omega arith
part_small (Some t) k = if_by (λ n. n ≤ 1) (eqb k t.token) 0 1 (λ e. omega arith) (λ e. omega arith)

pub share_small : (s : Option Ticket) (k x : ℕ) → share s k x ≤ 1
share_small s k x = if_by (λ n. n ≤ 1) (eqb x 0) 0 (share_of k s) (λ h. omega arith) (λ h. part_small s k)

-- the slot at a place, and those behind it
pub tally_step : (s : Option Ticket) (slots : List ℕ) (i : ℕ) → i < length slots
    → waiting_of s (occupied i (drop i slots)) ≡ share s i (get_or slots i 0) + waiting_of s (occupied (i + 1) (drop (i + 1) slots))
tally_step s slots i h =
    let n : suc i ≡ i + 1 = omega arith in
    ap (λ l. waiting_of s (occupied i l)) (drop-cons slots i 0 h)
    ∙ (one_more s i (get_or slots i 0) (occupied (suc i) (drop (suc i) slots)) ∙ ap (λ k. share s i (get_or slots i 0) + waiting_of s (occupied k (drop k slots))) n)

pub tally_end : (s : Option Ticket) (slots : List ℕ) (i : ℕ) → length slots ≤ i → waiting_of s (occupied i (drop i slots)) ≡ 0
unfolding waiting_of
tally_end None slots i h = rw (drop_of_length-le slots h) refl
tally_end (Some t) slots i h = rw (drop_of_length-le slots h) refl

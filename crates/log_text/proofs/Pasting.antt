-- Bytes put over others: two pieces are as one, and what room is left
use Prim.Native.Nat.{ℕ, ◌+◌, ◌-◌, ◌≤◌}
use mathlib.Core.Path.{◌≡◌, sym, ap, ◌∙◌}
use mathlib.Core.List.{List, ◌++◌, append_assoc}
use native.Mathlib.Omega.{arith}
use lib.ListN.{length, take, drop, length-append, length-drop}
use lib.Seq.{length-take-le, take_at, drop-drop, drop_at}
use Rattle.log_text.specs.Report.{pasted}

pub pasted_length : (d : List ℕ) (at : ℕ) (s : List ℕ) → at + length s ≤ length d → length (pasted d at s) ≡ length d
unfolding pasted
pasted_length d at s h =
    let t : length (take at d) ≡ at = length-take-le at d (omega arith) in
    let r : length (drop (at + length s) d) ≡ length d - (at + length s) = length-drop (at + length s) d in
    let a = length-append (take at d) (s ++ drop (at + length s) d) in
    let b = length-append s (drop (at + length s) d) in
    omega arith

-- a piece and the one behind it
pasted_join : (d : List ℕ) (at : ℕ) (x y : List ℕ) → at + length (x ++ y) ≤ length d → pasted (pasted d at x) (at + length x) y ≡ pasted d at (x ++ y)
unfolding pasted
pasted_join d at x y h =
    let l = length-append x y in
    let t : length (take at d) ≡ at = length-take-le at d (omega arith) in
    let p : length (take at d ++ x) ≡ at + length x = length-append (take at d) x ∙ ap (λ k. k + length x) t in
    let w : take at d ++ (x ++ drop (at + length x) d) ≡ take at d ++ x ++ drop (at + length x) d = sym (append_assoc (take at d) x (drop (at + length x) d)) in
    let f : take (at + length x) (take at d ++ (x ++ drop (at + length x) d)) ≡ take at d ++ x = ap (take (at + length x)) w ∙ take_at (take at d ++ x) (drop (at + length x) d) (at + length x) p in
    let n : at + length x + length y ≡ at + length (x ++ y) = omega arith in
    let b : drop (at + length x + length y) (take at d ++ (x ++ drop (at + length x) d)) ≡ drop (at + length (x ++ y)) d =
    ap (drop (at + length x + length y)) w
    ∙ (sym (drop-drop (length y) (at + length x) (take at d ++ x ++ drop (at + length x) d))
    ∙ (ap (drop (length y)) (drop_at (take at d ++ x) (drop (at + length x) d) (at + length x) p)
    ∙ (drop-drop (length y) (at + length x) d ∙ ap (λ k. drop k d) n))) in
    rw (f, b) (append_assoc (take at d) x (y ++ drop (at + length (x ++ y)) d) ∙ ap (λ (r : List ℕ). take at d ++ r) (sym (append_assoc x y (drop (at + length (x ++ y)) d))))

-- two calls, one behind the other
pub puts_join : (d : List ℕ) (at : ℕ) (x y : List ℕ) (r₁ : ℕ) (o₁ : List ℕ) (r₂ : ℕ) (o₂ : List ℕ)
    → r₁ ≡ at + length x → o₁ ≡ pasted d at x → r₂ ≡ r₁ + length y → o₂ ≡ pasted o₁ r₁ y → at + length (x ++ y) ≤ length d
    → (r₂ ≡ at + length (x ++ y)) × (o₂ ≡ pasted d at (x ++ y))
puts_join d at x y r₁ o₁ r₂ o₂ a b e f h =
    let l = length-append x y in
    (omega arith, f ∙ (ap (λ (o : List ℕ). pasted o r₁ y) b ∙ (ap (λ k. pasted (pasted d at x) k y) a ∙ pasted_join d at x y h)))

-- room that is left behind what was put
pub room_behind : (d : List ℕ) (at : ℕ) (x : List ℕ) (r : ℕ) (o : List ℕ) (n : ℕ) → r ≡ at + length x → o ≡ pasted d at x → at + length x + n ≤ length d → r + n ≤ length o
room_behind d at x r o n a b h = let l : length o ≡ length d = ap length b ∙ pasted_length d at x (omega arith) in omega arith

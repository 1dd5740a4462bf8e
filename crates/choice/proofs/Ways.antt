-- A way through tests: what a choice, a conjunction or an alternative is once its first test is known
use Prim.Native.Nat.{ℕ}
use mathlib.Core.Path.{◌≡◌, refl, sym, ap, ◌∙◌}
use mathlib.Core.Bool.{Bool, true, false, not, ◌&&◌, ◌||◌}
use native.Mathlib.Omega.{arith}
use Rattle.choice.specs.Choice.{when◌then◌else◌}

module _ {A : Type 0} {b : Bool} where
  pub hit : {x : A} (y : A) → b ≡ true → (when b then x else y) ≡ x
  hit y e = rw e

  pub miss : (x : A) {y : A} → b ≡ false → (when b then x else y) ≡ y
  miss x e = rw e

pub pass : {a : Bool} (b : Bool) → a ≡ true → (a && b) ≡ b
pass b e = rw e

pub stop : {a : Bool} (b : Bool) → a ≡ false → (a && b) ≡ false
stop b e = rw e

pub either : {a : Bool} (b : Bool) → a ≡ true → (a || b) ≡ true
either b e = simp e

pub other : {a : Bool} (b : Bool) → a ≡ false → (a || b) ≡ b
other b e = simp e

pub and_left : (a b : Bool) → (a && b) ≡ true → a ≡ true
and_left true b h = refl
and_left false b h = h

-- a negated test, of what a call answered
pub negated : {a b v : Bool} → a ≡ b → not a ≡ v → not b ≡ v
negated e h = ap not (sym e) ∙ h

-- two truth values that can't both be
pub clash : {A : Type 0} {b : Bool} → b ≡ true → b ≡ false → A
clash p q = let w : ◌≡◌ {A = ℕ} 0 1 = cc in absurd (omega arith)

pub and_right : (a b : Bool) → (a && b) ≡ true → b ≡ true
and_right true b h = h
and_right false b h = clash h refl

-- a fact of what a test chooses, from the fact of each side
pub if_by : {A : Type 0} (P : A → Type 0) (b : Bool) (x y : A) → (b ≡ true → P x) → (b ≡ false → P y) → P (when b then x else y)
if_by P true x y f g = f refl
if_by P false x y f g = g refl

-- two truth values that say the same are equal
pub same_truth : (a b : Bool) → (a ≡ true → b ≡ true) → (b ≡ true → a ≡ true) → a ≡ b
same_truth true b f g = sym (f refl)
same_truth false true f g = g refl
same_truth false false f g = refl

-- a function of what a test chooses
pub through : {A B : Type 0} (f : A → B) (b : Bool) (x y : A) {z : B} → (b ≡ false → f y ≡ z) → f (when b then x else y) ≡ (when b then f x else z)
through f true x y h = refl
through f false x y h = h refl

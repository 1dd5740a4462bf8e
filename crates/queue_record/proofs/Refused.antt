-- What refuses something is not nothing
use Prim.Native.Nat.{ℕ}
use mathlib.Core.Path.{◌≡◌, refl, sym, ap, ◌∙◌}
use mathlib.Core.Bool.{Bool, true, false}
use native.Mathlib.Omega.{arith}
use Rattle.std.specs.Prelude.{Option, Some, None, Result, Ok, Err, is_none}

module _ {A : Type 0} where
  pub some_none : {B : Type 0} {x : A} → Some x ≡ None → B
  some_none p = let z : ◌≡◌ {A = ℕ} 0 1 = cc in absurd (omega arith)

  pub is_nothing : {r : Option A} → r ≡ None → is_none r ≡ true
  is_nothing e = ap is_none e

  pub nothing_is : {r : Option A} → is_none r ≡ true → r ≡ None
  nothing_is {r = None} e = refl
  nothing_is {r = Some x} e = let z : ◌≡◌ {A = ℕ} 0 1 = cc in absurd (omega arith)

  pub is_something : {r : Option A} {x : A} → r ≡ Some x → is_none r ≡ false
  is_something e = ap is_none e

  module _ {E : Type 0} where
    pub err_ok : {B : Type 0} {e : E} {x : A} → Err e ≡ Ok x → B
    err_ok p = let z : ◌≡◌ {A = ℕ} 0 1 = cc in absurd (omega arith)

    pub ok_err : {B : Type 0} {e : E} {x : A} → Ok x ≡ Err e → B
    ok_err p = let z : ◌≡◌ {A = ℕ} 0 1 = cc in absurd (omega arith)

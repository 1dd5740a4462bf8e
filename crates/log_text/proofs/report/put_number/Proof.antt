-- The decimal, then what stands behind it
use Prim.Native.Nat.{ℕ, ◌+◌}
use mathlib.Core.Path.{◌≡◌, ap, ◌∙◌}
use mathlib.Core.List.{List}
use lib.ListN.{length, take, length-append}
use Rattle.csv_lines.specs.Form.{decimal}
use Rattle.log_text.specs.Report.{pasted}
use Rattle.log_text.proofs.KitDigits.{decimal_short}
use Rattle.log_text.proofs.Pasting.{puts_join, pasted_length, room_behind}
use native.Mathlib.Omega.{arith}
use borrow.Author.Rules.{rules}
use Rattle.log_text.proofs.report.put_number.Statement.{statement}
use Rattle.log_text.proofs.report.put_number.Tie as tie

-- a put of the digits that were written is a put of the decimal
digits_put : (d : List ℕ) (at n k : ℕ) (buffer : List ℕ) (r : ℕ) (o : List ℕ) → take k buffer ≡ decimal n
    → r ≡ at + length (take k buffer) → o ≡ pasted d at (take k buffer)
    → (r ≡ at + length (decimal n)) × (o ≡ pasted d at (decimal n))
digits_put d at n k buffer r o e x y = (x ∙ ap (λ (l : List ℕ). at + length l) e, y ∙ ap (pasted d at) e)

-- ---- the calls, each as seen from the next
abbrev asked : tie.After-decimal-count → tie.Start
asked c = c.before.before.before.before

abbrev to_decimal : tie.After-put-end → tie.After-decimal-count
to_decimal c = c.before.before.before

abbrev to_put : tie.After-put → tie.After-put-end
to_put c = c.before.before.before.before

pub put_number_spec : {M : Type 1} → statement M
put_number_spec =
    tie.close
    (tie.spec
    (λ c κs. search rules)
    (λ c. search rules)
    (λ c. search rules)
    (λ c κs.
    let a = c.args in
    let d = c.decimal-count.ensures in
    let e = d.1.1 in
    omega (arith, ap length e, decimal_short a.n, c.requires))
    (λ c κs.
    let a = c.args in
    let d = c.decimal-count.ensures in
    let f = c.put-end.ensures in
    let p = digits_put a.out.now a.at a.n _ _ _ _ d.1.1 f.0 f.1 in
    room_behind _ _ (decimal a.n) _ _ _ p.0 p.1 (omega (arith, decimal_short a.n, c.requires)))
    (λ c.
    let a = c.args in
    let d = c.decimal-count.ensures in
    let f = c.put-end.ensures in
    let p = digits_put a.out.now a.at a.n _ _ _ _ d.1.1 f.0 f.1 in
    let s = decimal_short a.n in
    let l = length-append (decimal a.n) a.behind.now in
    let g = c.put.ensures in
    let w = puts_join a.out.now a.at (decimal a.n) a.behind.now _ _ _ _ p.0 p.1 g.0 g.1 (omega (arith, s, l, c.requires)) in
    ap length w.1 ∙ pasted_length _ _ _ (omega (arith, s, l, c.requires)))
    (λ c.
    let a = c.args in
    let d = c.decimal-count.ensures in
    let f = c.put-end.ensures in
    let p = digits_put a.out.now a.at a.n _ _ _ _ d.1.1 f.0 f.1 in
    let s = decimal_short a.n in
    let l = length-append (decimal a.n) a.behind.now in
    let g = c.put.ensures in
    puts_join a.out.now a.at (decimal a.n) a.behind.now _ _ _ _ p.0 p.1 g.0 g.1 (omega (arith, s, l, c.requires))))

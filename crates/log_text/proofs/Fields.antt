-- Numbers with their commas, one more at a time
use Prim.Native.Nat.{ℕ, ◌+◌, ◌*◌, ◌≤◌, ◌<◌}
use mathlib.Core.Path.{◌≡◌, sym, ap, ◌∙◌}
use mathlib.Core.List.{List, [], ◌∷◌, ◌++◌, append_assoc, append-nil}
use native.Mathlib.Omega.{arith}
use native.Mathlib.Numerals.{add-one}
use lib.ListN.{length, take, drop, get_or, length-append, take-append-drop}
use lib.Seq.{take-suc, length-take-le}
use Rattle.csv_lines.specs.Form.{decimal, field}
use Rattle.log_text.specs.Report.{pasted, fields}
use Rattle.log_text.proofs.KitDigits.{decimal_short}
use Rattle.log_text.proofs.Pasting.{puts_join, pasted_length}

fields_snoc : (ns : List ℕ) (n : ℕ) → fields (ns ++ (n ∷ [])) ≡ fields ns ++ field n
fields_snoc [] n = append-nil (field n)
fields_snoc (m ∷ ns) n = ap (λ (r : List ℕ). field m ++ r) (fields_snoc ns n) ∙ sym (append_assoc (field m) (fields ns) (field n))

pub fields_short : (ns : List ℕ) → length (fields ns) ≤ 21 * length ns
fields_short [] = omega arith
fields_short (n ∷ ns) =
    let i = fields_short ns in
    let a = length-append (field n) (fields ns) in
    let b = length-append (decimal n) (44 ∷ []) in
    let s = decimal_short n in
    omega arith

-- the numbers that were put, and where the next one goes
pub record Put (d : List ℕ) (from : ℕ) (ns : List ℕ) (at : ℕ) (out : List ℕ) : Type 0 where
  pub place : at ≡ from + length (fields ns)
  pub bytes : out ≡ pasted d from (fields ns)

pub put_next : (d : List ℕ) (from : ℕ) (ns : List ℕ) (i at : ℕ) (out : List ℕ) (r : ℕ) (o : List ℕ) → Put d from (take i ns) at out → i < length ns
    → r ≡ at + length (field (get_or ns i 0)) → o ≡ pasted out at (field (get_or ns i 0)) → from + 21 * length ns ≤ length d → Put d from (take (i + 1) ns) r o
put_next d from ns i at out r o p h a b l =
    let e : take (i + 1) ns ≡ take i ns ++ (get_or ns i 0 ∷ []) = ap (λ k. take k ns) (add-one i) ∙ take-suc ns i 0 h in
    let f : fields (take (i + 1) ns) ≡ fields (take i ns) ++ field (get_or ns i 0) = ap fields e ∙ fields_snoc (take i ns) (get_or ns i 0) in
    let s = fields_short (take (i + 1) ns) in
    let t : length (take (i + 1) ns) ≡ i + 1 = length-take-le (i + 1) ns (omega arith) in
    let n : length (fields (take (i + 1) ns)) ≡ length (fields (take i ns) ++ field (get_or ns i 0)) = ap length f in
    let j = puts_join d from (fields (take i ns)) (field (get_or ns i 0)) at out r o p.place p.bytes a b (omega arith) in
    record { place = j.0 ∙ ap (λ (fs : List ℕ). from + length fs) (sym f); bytes = j.1 ∙ ap (pasted d from) (sym f) }

pub put_start : (d : List ℕ) (from : ℕ) → Put d from [] from d
unfolding pasted
put_start d from = record {
  place = omega arith;
  bytes = let z : from + 0 ≡ from = omega arith in sym (ap (λ k. take from d ++ drop k d) z ∙ take-append-drop from d);
}

-- the buffer stays as long as it was, and the next number fits
pub put_length : (d : List ℕ) (from : ℕ) (ns : List ℕ) (i at : ℕ) (out : List ℕ) → Put d from (take i ns) at out → i ≤ length ns
    → from + 21 * length ns ≤ length d → length out ≡ length d
put_length d from ns i at out p h l =
    let s = fields_short (take i ns) in
    let t : length (take i ns) ≡ i = length-take-le i ns h in
    ap length p.bytes ∙ pasted_length d from (fields (take i ns)) (omega arith)

pub put_room : (d : List ℕ) (from : ℕ) (ns : List ℕ) (i at : ℕ) (out : List ℕ) → Put d from (take i ns) at out → i < length ns
    → from + 21 * length ns ≤ length d → at + 20 + 1 ≤ length out
put_room d from ns i at out p h l =
    let s = fields_short (take i ns) in
    let t : length (take i ns) ≡ i = length-take-le i ns (omega arith) in
    let n = put_length d from ns i at out p (omega arith) l in
    let a = p.place in
    omega arith

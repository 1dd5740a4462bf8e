-- A piece of a text: the bytes from a place to the place behind them
use Prim.Native.Nat.{ℕ, ◌+◌, ◌-◌, ◌≤◌}
use mathlib.Core.Path.{◌≡◌, refl, sym, ap, ◌∙◌}
use mathlib.Core.Bool.{true}
use mathlib.Core.List.{List, [], ◌∷◌, ◌++◌, append_assoc}
use native.Mathlib.Omega.{arith}
use lib.ListN.{length, drop, length-append, length-drop}
use lib.Seq.{drop-drop, drop-append_seam}
use Rattle.csv_lines.specs.Reading.{holds_at}
use Rattle.csv_lines.proofs.Bytes.{holds_inside, holds_ahead}

pub record Piece (text : List ℕ) (at : ℕ) (piece : List ℕ) (end : ℕ) : Type 0 where
  pub stands : drop at text ≡ piece ++ drop end text
  pub behind : end ≡ at + length piece
  pub inside : end ≤ length text

-- what follows a piece
pub rest_at : (text : List ℕ) (at : ℕ) (piece rest : List ℕ) → drop at text ≡ piece ++ rest → drop (at + length piece) text ≡ rest
rest_at text at piece rest h = sym (drop-drop (length piece) at text) ∙ (ap (drop (length piece)) h ∙ drop-append_seam piece rest)

pub piece_at : (text : List ℕ) (at : ℕ) (piece rest : List ℕ) → at ≤ length text → drop at text ≡ piece ++ rest
    → Piece text at piece (at + length piece)
piece_at text at piece rest i h = record {
  stands = h ∙ ap (λ r. piece ++ r) (sym (rest_at text at piece rest h));
  behind = refl;
  inside = let n : length text - at ≡ length piece + length rest = sym (length-drop at text) ∙ (ap length h ∙ length-append piece rest) in omega arith;
}

pub byte_at : (text : List ℕ) (at byte : ℕ) → holds_at text at byte ≡ true → Piece text at (byte ∷ []) (at + 1)
byte_at text at byte h = record { stands = holds_ahead text at byte h; behind = refl; inside = let i = holds_inside text at byte h in omega arith }

-- a piece and the one behind it
pub joined : {text : List ℕ} {a b c : ℕ} {p q : List ℕ} → Piece text a p b → Piece text b q c → Piece text a (p ++ q) c
joined {text} {a} {b} {c} {p} {q} x y = record {
  stands = x.stands ∙ (ap (λ r. p ++ r) y.stands ∙ sym (append_assoc p q (drop c text)));
  behind = let n = length-append p q in let f = x.behind in let g = y.behind in omega arith;
  inside = y.inside;
}

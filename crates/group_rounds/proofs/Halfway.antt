-- The round of retries, halfway: the places before i are retried, the others as they were
use Prim.Native.Nat.{ℕ, zero, suc, ◌+◌, ◌<◌, ◌≤◌}
use mathlib.Core.Path.{◌≡◌, refl, sym, ap, ◌∙◌}
use mathlib.Core.List.{List, [], ◌∷◌}
use native.Mathlib.Omega.{arith}
use native.Mathlib.Numerals.{add-one}
use lib.ListN.{length, get_or, set}
use Rattle.group_record.specs.Record.{nowhere}
use Rattle.group_record.specs.declared.record.Place.{Place}
use Rattle.group_rounds.specs.Rounds.{retried_place, retried_places}

abbrev pub halfway : List Place → ℕ → List Place
halfway [] i = []
halfway (p ∷ ps) zero = p ∷ ps
halfway (p ∷ ps) (suc i) = retried_place p ∷ halfway ps i

pub halfway_none : (ps : List Place) → ps ≡ halfway ps 0
halfway_none [] = refl
halfway_none (p ∷ ps) = refl

one_more : (ps : List Place) (i : ℕ) → i < length ps → set (halfway ps i) i (retried_place (get_or ps i nowhere)) ≡ halfway ps (suc i)
one_more [] i h = absurd (omega arith)
one_more (p ∷ ps) zero h = ap (λ (l : List Place). retried_place p ∷ l) (halfway_none ps)
one_more (p ∷ ps) (suc i) h = ap (λ (l : List Place). retried_place p ∷ l) (one_more ps i (omega arith))

pub halfway_more : (ps : List Place) (i : ℕ) → length ps ≡ 16 → i < 16 → set (halfway ps i) i (retried_place (get_or ps i nowhere)) ≡ halfway ps (i + 1)
halfway_more ps i l h = one_more ps i (omega arith) ∙ ap (halfway ps) (sym (add-one i))

past_all : (ps : List Place) (i : ℕ) → length ps ≤ i → halfway ps i ≡ retried_places ps
past_all [] i h = refl
past_all (p ∷ ps) zero h = absurd (omega arith)
past_all (p ∷ ps) (suc i) h = ap (λ (l : List Place). retried_place p ∷ l) (past_all ps i (omega arith))

pub halfway_all : (ps : List Place) (i : ℕ) → length ps ≡ 16 → 16 ≤ i → halfway ps i ≡ retried_places ps
halfway_all ps i l h = past_all ps i (omega arith)

-- the place that is next is as it was
as_it_was : (ps : List Place) (i : ℕ) → get_or (halfway ps i) i nowhere ≡ get_or ps i nowhere
as_it_was [] i = refl
as_it_was (p ∷ ps) zero = refl
as_it_was (p ∷ ps) (suc i) = as_it_was ps i

pub halfway_on : (ps now : List Place) (i : ℕ) (p : Place) → length ps ≡ 16 → i < 16 → now ≡ halfway ps i → p ≡ retried_place (get_or now i nowhere) → set now i p ≡ halfway ps (i + 1)
halfway_on ps now i p l h e f =
    let g : p ≡ retried_place (get_or ps i nowhere) = f ∙ ap retried_place (ap (λ (x : List Place). get_or x i nowhere) e ∙ as_it_was ps i) in
    ap (λ (x : List Place). set x i p) e ∙ (ap (set (halfway ps i) i) g ∙ halfway_more ps i l h)

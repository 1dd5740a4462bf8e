-- The decimal of a number is the one list of digits without a leading zero that has its value
use Prim.Native.Nat.{ℕ, zero, suc, ◌+◌, ◌*◌, ◌/◌, ◌%◌, ◌^◌, ◌≤◌, ◌<◌}
use mathlib.Core.Path.{◌≡◌, refl, sym, ap, ◌∙◌}
use mathlib.Core.Bool.{Bool, true, ◌&&◌}
use mathlib.Core.List.{List, [], ◌∷◌, ◌++◌}
use native.Mathlib.Omega.{arith}
use lib.Dec.{leb, ltb}
use borrow.Author.Tests.{ltb-true, ltb-false, leb-true, le-leb, lt-ltb, le-ltb}
use Rattle.choice.proofs.Ways.{hit, miss, pass, and_left, and_right, if_by}
use Rattle.csv_lines.specs.Form.{spelled}
use Rattle.csv_lines.specs.Reading.{is_digit, digit_of}

-- the value of digits, behind those that made v
abbrev pub value_of : ℕ → List ℕ → ℕ
value_of v [] = v
value_of v (b ∷ bs) = value_of (v * 10 + digit_of b) bs

abbrev pub all_digits : List ℕ → Bool
all_digits [] = true
all_digits (b ∷ bs) = is_digit b && all_digits bs

value_snoc : (v : ℕ) (bs : List ℕ) (b : ℕ) → value_of v (bs ++ (b ∷ [])) ≡ value_of v bs * 10 + digit_of b
value_snoc v [] b = refl
value_snoc v (x ∷ bs) b = value_snoc (v * 10 + digit_of x) bs b

-- more digits never make it smaller
pub value_grows : (v : ℕ) (bs : List ℕ) → v ≤ value_of v bs
value_grows v [] = omega arith
value_grows v (b ∷ bs) = let g = value_grows (v * 10 + digit_of b) bs in omega arith

digits_snoc : (bs : List ℕ) (b : ℕ) → all_digits bs ≡ true → is_digit b ≡ true → all_digits (bs ++ (b ∷ [])) ≡ true
digits_snoc [] b h d = pass _ d
digits_snoc (x ∷ bs) b h d = pass _ (and_left (is_digit x) _ h) ∙ digits_snoc bs b (and_right (is_digit x) _ h) d

glyph_digit : (d : ℕ) → d < 10 → is_digit (48 + d) ≡ true
unfolding is_digit
glyph_digit d h = pass _ (le-leb 48 (48 + d) (omega arith)) ∙ le-leb (48 + d) 57 (omega arith)

glyph_value : (d : ℕ) → digit_of (48 + d) ≡ d
unfolding digit_of
glyph_value d = omega arith

-- a digit's byte, from its value
pub digit_glyph : (b : ℕ) → is_digit b ≡ true → b ≡ 48 + digit_of b
unfolding is_digit digit_of
digit_glyph b h = let l = leb-true 48 b (and_left (leb 48 b) _ h) in omega arith

pub digit_small : (b : ℕ) → is_digit b ≡ true → digit_of b < 10
unfolding is_digit digit_of
digit_small b h = let l = leb-true b 57 (and_right (leb 48 b) _ h) in omega arith

-- digits whose first is no 0, and their value
pub record Canonical (bs : List ℕ) (n : ℕ) : Type 0 where
  pub first : ℕ
  pub more : List ℕ
  pub said : bs ≡ first ∷ more
  pub leads : is_digit first ≡ true
  pub nonzero : 0 < digit_of first
  pub follow : all_digits more ≡ true
  pub worth : value_of (digit_of first) more ≡ n

-- what is spelled for a number other than 0
pub spelled_canonical : (most n : ℕ) → 0 < n → n < 10 ^ most → Canonical (spelled most n) n
spelled_canonical zero n p h = absurd (omega arith)
spelled_canonical (suc most) n p h =
    if_by (λ bs. Canonical bs n) (ltb n 10) _ _ short
    (λ t. let l = ltb-false n 10 t in behind (spelled_canonical most (n / 10) (omega arith) (omega arith)))
  where
    short : ltb n 10 ≡ true → Canonical ((48 + n) ∷ []) n
    short t = let l = ltb-true n 10 t in record { first = 48 + n; more = []; said = refl; leads = glyph_digit n l; nonzero = rw (glyph_value n) p; follow = refl; worth = glyph_value n }

    behind : Canonical (spelled most (n / 10)) (n / 10) → Canonical (spelled most (n / 10) ++ ((48 + n % 10) ∷ [])) n
    behind k = record {
      first = k.first;
      more = k.more ++ ((48 + n % 10) ∷ []);
      said = ap (λ (bs : List ℕ). bs ++ ((48 + n % 10) ∷ [])) k.said;
      leads = k.leads;
      nonzero = k.nonzero;
      follow = digits_snoc k.more (48 + n % 10) k.follow (glyph_digit (n % 10) (omega arith));
      worth = value_snoc (digit_of k.first) k.more (48 + n % 10) ∙ rw (k.worth, glyph_value (n % 10)) (omega arith);
    }

-- a list that is not empty, by its last
pub data Ending : List ℕ → Type 0 where
  none : Ending []
  last : (bs : List ℕ) (b : ℕ) → Ending (bs ++ (b ∷ []))

ending : (bs : List ℕ) → Ending bs
ending [] = none
ending (b ∷ bs) = cons b (ending bs)
  where
    cons : (b : ℕ) {bs : List ℕ} → Ending bs → Ending (b ∷ bs)
    cons b none = last [] b
    cons b (last cs c) = last (b ∷ cs) c

digits_init : (bs : List ℕ) (b : ℕ) → all_digits (bs ++ (b ∷ [])) ≡ true → (all_digits bs ≡ true) × (is_digit b ≡ true)
digits_init [] b h = (refl, and_left (is_digit b) true h)
digits_init (x ∷ bs) b h =
    let k = digits_init bs b (and_right (is_digit x) (all_digits (bs ++ (b ∷ []))) h) in
    (pass _ (and_left (is_digit x) (all_digits (bs ++ (b ∷ []))) h) ∙ k.0, k.1)

-- those digits are what is spelled for their value
pub canonical_spelled : (most first : ℕ) (more : List ℕ) → is_digit first ≡ true → 0 < digit_of first → all_digits more ≡ true
    → value_of (digit_of first) more < 10 ^ most → spelled most (value_of (digit_of first) more) ≡ first ∷ more
canonical_spelled zero first more d p f h = let g = value_grows (digit_of first) more in absurd (omega arith)
canonical_spelled (suc most) first more d p f h =
    by (ending more) f h (λ bs e l. canonical_spelled most first bs d p e l)
  where
    by : {more : List ℕ} → Ending more → all_digits more ≡ true → value_of (digit_of first) more < 10 ^ suc most
        → ((bs : List ℕ) → all_digits bs ≡ true → value_of (digit_of first) bs < 10 ^ most → spelled most (value_of (digit_of first) bs) ≡ first ∷ bs)
        → spelled (suc most) (value_of (digit_of first) more) ≡ first ∷ more
    by none f h step = hit _ (lt-ltb (digit_of first) 10 (digit_small first d)) ∙ ap (λ (x : ℕ). x ∷ []) (sym (digit_glyph first d))
    by (last bs b) f h step =
        let k = digits_init bs b f in
        let v : value_of (digit_of first) (bs ++ (b ∷ [])) ≡ value_of (digit_of first) bs * 10 + digit_of b = value_snoc (digit_of first) bs b in
        let s = digit_small b k.1 in
        let g = value_grows (digit_of first) bs in
        let m : (value_of (digit_of first) bs * 10 + digit_of b) / 10 ≡ value_of (digit_of first) bs = omega arith in
        let r : (value_of (digit_of first) bs * 10 + digit_of b) % 10 ≡ digit_of b = omega arith in
        let l : value_of (digit_of first) bs < 10 ^ most = omega arith in
        rw v (miss _ (le-ltb (value_of (digit_of first) bs * 10 + digit_of b) 10 (omega arith)) ∙ rw (m, r, sym (digit_glyph b k.1), step bs k.0 l) refl)

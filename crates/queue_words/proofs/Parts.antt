-- A part of a record and its words: there and back
use Prim.Native.Nat.{ℕ, zero, suc, ◌≤◌, ◌<◌}
use mathlib.Core.Path.{◌≡◌, refl, sym, ◌∙◌}
use mathlib.Core.Bool.{Bool, true, false, ◌&&◌}
use native.Mathlib.Omega.{arith}
use borrow.Author.Tests.{le-leb, eqb-true}
use lib.Dec.{eqb}
use Rattle.stage.specs.Phases.{phase_number, phase_at}
use Rattle.stage.specs.declared.phases.Phase.{Phase}
use Rattle.choice.proofs.Ways.{pass, and_left, and_right}
use Rattle.stage.proofs.Table.{phase_below}
use Rattle.queue_record.specs.declared.record.Kind.{Kind}
use Rattle.queue_record.specs.declared.record.Kind.TheVariants.{Scope, Iterator}
use Rattle.queue_words.specs.Words.{kind_word, kind_at, mark_word, mark_at, selected_word, domain_word, token_word, attempt_word, selection_at, marks_encode, ticket_encodes}
use Rattle.std.specs.Prelude.{Option, Some, None}
use Rattle.queue_record.specs.declared.record.Ticket.{Ticket}

-- ---- a part's words are read as that part
pub kind_back : (k : Kind) → kind_at (kind_word k) ≡ k
kind_back Scope = refl
kind_back Iterator = refl

pub mark_back : (b : Bool) → mark_at (mark_word b) ≡ b
mark_back true = refl
mark_back false = refl

pub selection_back : (s : Option Ticket) → selection_at (selected_word s) (domain_word s) (token_word s) (attempt_word s) ≡ s
selection_back None = refl
selection_back (Some t) = refl

-- ---- a number that is no larger than the last one of its kind is the word of what it is read as
-- a law of the numbers up to 4 is its five cases
up_to_4 : (P : ℕ → Type 0) → P 0 → P 1 → P 2 → P 3 → P 4 → (n : ℕ) → n ≤ 4 → P n
up_to_4 P p₀ p₁ p₂ p₃ p₄ zero h = p₀
up_to_4 P p₀ p₁ p₂ p₃ p₄ (suc zero) h = p₁
up_to_4 P p₀ p₁ p₂ p₃ p₄ (suc (suc zero)) h = p₂
up_to_4 P p₀ p₁ p₂ p₃ p₄ (suc (suc (suc zero))) h = p₃
up_to_4 P p₀ p₁ p₂ p₃ p₄ (suc (suc (suc (suc zero)))) h = p₄
up_to_4 P p₀ p₁ p₂ p₃ p₄ (suc (suc (suc (suc (suc n))))) h = absurd (omega arith)

-- and of the numbers up to 1 two
up_to_1 : (P : ℕ → Type 0) → P 0 → P 1 → (n : ℕ) → n ≤ 1 → P n
up_to_1 P p₀ p₁ zero h = p₀
up_to_1 P p₀ p₁ (suc zero) h = p₁
up_to_1 P p₀ p₁ (suc (suc n)) h = absurd (omega arith)

pub kind_again : (n : ℕ) → n ≤ 1 → kind_word (kind_at n) ≡ n
kind_again n h = up_to_1 (λ (n : ℕ). kind_word (kind_at n) ≡ n) refl refl n h

pub mark_again : (n : ℕ) → n ≤ 1 → mark_word (mark_at n) ≡ n
mark_again n h = up_to_1 (λ (n : ℕ). mark_word (mark_at n) ≡ n) refl refl n h

pub phase_again : (n : ℕ) → n ≤ 4 → phase_number (phase_at n) ≡ n
phase_again n h = up_to_4 (λ (n : ℕ). phase_number (phase_at n) ≡ n) refl refl refl refl refl n h

-- the four words of a selection
module _ (d t a : ℕ) where
  pub record Selected (s : ℕ) : Type 0 where
    pub selected : selected_word (selection_at s d t a) ≡ s
    pub domain : domain_word (selection_at s d t a) ≡ d
    pub token : token_word (selection_at s d t a) ≡ t
    pub attempt : attempt_word (selection_at s d t a) ≡ a

  pub selection_again : (s : ℕ) → s ≤ 1 → ticket_encodes s d t a ≡ true → Selected s
  selection_again s h e = up_to_1 (λ (s : ℕ). ticket_encodes s d t a ≡ true → Selected s) (λ z. none z) (λ _. record { selected = refl; domain = refl; token = refl; attempt = refl }) s h e
    where
      none : (eqb d 0 && (eqb t 0 && eqb a 0)) ≡ true → Selected 0
      none z =
          let r : (eqb t 0 && eqb a 0) ≡ true = and_right (eqb d 0) (eqb t 0 && eqb a 0) z in
          record {
            selected = refl;
            domain = sym (eqb-true d 0 (and_left (eqb d 0) _ z));
            token = sym (eqb-true t 0 (and_left (eqb t 0) (eqb a 0) r));
            attempt = sym (eqb-true a 0 (and_right (eqb t 0) (eqb a 0) r));
          }

-- ---- the words of a record are of their kinds
mark_small : (b : Bool) → mark_word b ≤ 1
mark_small true = omega arith
mark_small false = omega arith

kind_small : (k : Kind) → kind_word k ≤ 1
kind_small Scope = omega arith
kind_small Iterator = omega arith

selected_small : (s : Option Ticket) → selected_word s ≤ 1
selected_small None = omega arith
selected_small (Some t) = omega arith

pub marks_encode_lem : (k : Kind) (s : Option Ticket) (f i : Bool) (p : Phase) → marks_encode (kind_word k) (selected_word s) (mark_word f) (mark_word i) (phase_number p) ≡ true
marks_encode_lem k s f i p =
    let b : phase_number p < 5 = phase_below p in
    pass _ (le-leb _ _ (kind_small k)) ∙ (pass _ (le-leb _ _ (selected_small s))
    ∙ (pass _ (le-leb _ _ (mark_small f)) ∙ (pass _ (le-leb _ _ (mark_small i)) ∙ le-leb (phase_number p) 4 (omega arith))))

pub ticket_encodes_lem : (s : Option Ticket) → ticket_encodes (selected_word s) (domain_word s) (token_word s) (attempt_word s) ≡ true
ticket_encodes_lem None = refl
ticket_encodes_lem (Some t) = refl

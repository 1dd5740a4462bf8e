-- The reader's contract is a relation: one answer alone meets it, and one does
use Prim.Native.Nat.{ℕ, ◌<◌, ◌≤◌}
use mathlib.Core.Path.{◌≡◌, refl, sym, ap, ◌∙◌, subst}
use mathlib.Core.Logic.{◌↔◌}
use mathlib.Core.Bool.{Bool, true, false}
use mathlib.Core.List.{List, [], ◌∷◌}
use borrow.Author.Tests.{ltb-true, ltb-false}
use lib.Dec.{ltb}
use Rattle.queue_record.specs.Refusals.{refusal_number}
use Rattle.queue_record.specs.declared.refusal.Refusal.TheVariants.{Broken}
use Rattle.queue_record.specs.Openings.{Opening, blank, heading_of, opening_of, opened_as}
use Rattle.log_reader.specs.Walk.{read_from}
use Rattle.log_reader.specs.Reader.{ReadsAs, refused_opening, bad_at, good_log}
use Rattle.log_reader.proofs.Rightly.{reads_from}
use Rattle.log_reader.proofs.Unique.{reads_one}
use Rattle.queue_words.specs.Words.{kind_at, words_of}
use Rattle.queue_words.specs.Exported.{Exported, exported, refused_on}
use Rattle.gulberzan_c.specs.ReadBack.{read_exported, ReadOn, no_kind, read_back}
use Rattle.library_laws.specs.Sessions.{opening_by}
use Rattle.library_laws.specs.Values.{read_written}
use Rattle.library_laws.proofs.AsCalls.{refused_case}
use native.Mathlib.Omega.{arith}
use Rattle.queue_record.specs.declared.answered.Answered.{Answered}
use Rattle.log_reader.specs.Types.{Read}

never_both : {A : Type 0} (kind : ℕ) → 1 < kind → kind ≤ 1 → A
never_both kind l m = absurd (omega arith)

pub read_on_one : (ws : List ℕ) (kind domain first : ℕ) (bindings log : List ℕ) (x y : Exported) → ReadOn ws kind domain first bindings log x → ReadOn ws kind domain first bindings log y → x ≡ y
read_on_one ws kind domain first bindings log x y (no_kind a) (no_kind b) = refl
read_on_one ws kind domain first bindings log x y (no_kind a) (read_back r b h) = never_both kind a b
read_on_one ws kind domain first bindings log x y (read_back r a h) (no_kind b) = never_both kind b a
read_on_one ws kind domain first bindings log x y (read_back r a h) (read_back s b k) = ap read_exported (reads_one (opening_of (heading_of (kind_at kind) domain first) bindings) log r s h k)

-- a reading's words are its number, its rows or its place, and the queue's words
read_written_lem : (o : Opening) (log : List ℕ) (r : Answered Read) → ReadsAs o log r → read_exported r ≡ read_written r
read_written_lem o log r (refused_opening {n} e) = ap (λ (k : ℕ). exported (refusal_number n) (k ∷ 0 ∷ 0 ∷ 0 ∷ 0 ∷ []) (words_of blank)) (refused_case n)
read_written_lem o log r (bad_at place e b) = refl
read_written_lem o log r (good_log e b) = refl

module _ (ws : List ℕ) (kind domain first : ℕ) (bindings log : List ℕ) where
  -- it is met by the answer of the reader by value, written as words
  pub read_on_is : kind ≤ 1 → (x : Exported) → ReadOn ws kind domain first bindings log x ↔ (x ≡ read_written (read_from (opened_as (opening_by kind domain first bindings)) log))
  read_on_is l x =
      let w = read_written_lem (opening_by kind domain first bindings) log _ (reads_from (opening_by kind domain first bindings) log) in
      let one = read_back (read_from (opened_as (opening_by kind domain first bindings)) log) l (reads_from (opening_by kind domain first bindings) log) in
      (λ h. read_on_one ws kind domain first bindings log x _ h one ∙ w, λ e. subst (ReadOn ws kind domain first bindings log) (w ∙ sym e) one)

  -- and of a kind that there is not, by 1
  pub read_on_none : 1 < kind → (x : Exported) → ReadOn ws kind domain first bindings log x ↔ (x ≡ refused_on Broken 0 ws)
  read_on_none l x = (λ h. read_on_one ws kind domain first bindings log x _ h (no_kind l), λ e. subst (ReadOn ws kind domain first bindings log) (sym e) (no_kind l))

  -- so there is one for any kind
  pub read_on_some : (x : Exported) × ReadOn ws kind domain first bindings log x
  read_on_some = by (ltb 1 kind) refl
    where
      by : (b : Bool) → ltb 1 kind ≡ b → (x : Exported) × ReadOn ws kind domain first bindings log x
      by true e = (refused_on Broken 0 ws, no_kind (ltb-true 1 kind e))
      by false e =
          let r = read_from (opened_as (opening_by kind domain first bindings)) log in
          (read_exported r, read_back r (ltb-false 1 kind e) (reads_from (opening_by kind domain first bindings) log))

-- The places of a record's words: the words behind the slots, read and set
use Prim.Native.Nat.{ℕ, suc, ◌+◌}
use mathlib.Core.Path.{◌≡◌, ap, ◌∙◌}
use mathlib.Core.List.{List, [], ◌∷◌, ◌++◌}
use native.Mathlib.Nat.{zero-add, suc-add}
use native.Mathlib.Omega.{arith}
use lib.ListN.{length, get_or, set}
use lib.Seq.{get_or-append-add}
use Rattle.queue_record.specs.declared.record.Queue.{Queue}
use Rattle.queue_words.specs.Layout.{at_count}
use Rattle.queue_words.specs.Words.{word, kind_word, words_behind, words_of}

-- a store behind a first list
set_append_add : (xs ys : List ℕ) (j v : ℕ) → set (xs ++ ys) (length xs + j) v ≡ xs ++ set ys j v
set_append_add [] ys j v = rw zero-add
set_append_add (x ∷ xs) ys j v = rw suc-add (ap (λ (l : List ℕ). x ∷ l) (set_append_add xs ys j v))

-- the words up to the slots, with others behind them
abbrev infront : Queue → List ℕ → List ℕ
infront q ys = kind_word q.kind ∷ q.domain ∷ q.next ∷ (q.slots ++ ys)

module _ (q : Queue) (l : length q.slots ≡ 64) where
  place : (j : ℕ) → at_count + j ≡ suc (suc (suc (length q.slots + j)))
  place j = omega arith

  pub word_behind : (j : ℕ) → word (words_of q) (at_count + j) ≡ get_or (words_behind q) j 0
  unfolding words_of
  word_behind j = ap (word (words_of q)) (place j) ∙ get_or-append-add q.slots (words_behind q) j 0

  pub set_behind : (ys : List ℕ) (j v : ℕ) → set (infront q ys) (at_count + j) v ≡ infront q (set ys j v)
  set_behind ys j v = ap (λ (k : ℕ). set (infront q ys) k v) (place j) ∙ ap (λ (r : List ℕ). kind_word q.kind ∷ q.domain ∷ q.next ∷ r) (set_append_add q.slots ys j v)

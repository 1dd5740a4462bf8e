-- The openings, word by word
use Prim.Native.Nat.{ℕ, ◌+◌, ◌≤◌}
use mathlib.Core.Path.{◌≡◌, ap, ◌∙◌}
use mathlib.Core.List.{List, [], ◌∷◌, ◌++◌, append_assoc}
use lib.ListN.{length, take, drop}
use lib.Seq.{take-length}
use Rattle.queue_record.specs.Openings.{binding_places, iterator_of}
use Rattle.queue_record.proofs.Padding.{kept_length}
use Rattle.queue_words.specs.Layout.{at_bindings}
use Rattle.queue_words.specs.Words.{words_of}
use Rattle.queue_words.specs.InPlace.{iterator_in, run_put}

-- ---- an iterator
module _ (domain first : ℕ) (given : List ℕ) (few : length given ≤ 16) where
  abbrev base : List ℕ
  base = iterator_in domain first (length given)

  abbrev places : List ℕ
  places = binding_places given

  behind : take (length places) places ++ drop (at_bindings + length places) base ≡ places ++ (length given ∷ [])
  behind = ap (λ (r : List ℕ). r ++ drop (at_bindings + length places) base) (take-length places)
      ∙ ap (λ (n : ℕ). places ++ drop (at_bindings + n) base) (kept_length given few)

  pub iterator_words : run_put base at_bindings places ≡ words_of (iterator_of domain first given)
  unfolding run_put iterator_of words_of
  iterator_words = append_assoc (take at_bindings base) (take (length places) places) (drop (at_bindings + length places) base) ∙ ap (λ (r : List ℕ). take at_bindings base ++ r) behind

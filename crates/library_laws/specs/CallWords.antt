-- The words that a call leaves, whichever it is: the exported calls as one
use Rattle.std.specs.Prelude.{ℕ, List, [], ◌∷◌}
use Rattle.queue_words.specs.Exported.{register_on, land_on, pop_on, complete_on, retry_on, admit_on, admit_without_on, end_on, cancel_on}

-- an exported call with its inputs: the lent lists as their words
pub data WordCall : Type 0 where
  register : ℕ → WordCall
  land : ℕ → WordCall
  pop : WordCall
  complete : List ℕ → ℕ → ℕ → WordCall
  retry : WordCall
  admit : List ℕ → WordCall
  admit_without : WordCall
  end : WordCall
  cancel : WordCall

abbrev pub words_after : List ℕ → WordCall → List ℕ
words_after ws (register number) = (register_on ws number).words
words_after ws (land number) = (land_on ws number).words
words_after ws pop = (pop_on ws).words
words_after ws (complete ticket outcome kept) = (complete_on ws ticket outcome kept).words
words_after ws retry = (retry_on ws).words
words_after ws (admit target) = (admit_on ws target).words
words_after ws admit_without = (admit_without_on ws).words
words_after ws end = (end_on ws).words
words_after ws cancel = (cancel_on ws).words

abbrev pub words_after_all : List ℕ → List WordCall → List ℕ
words_after_all ws [] = ws
words_after_all ws (c ∷ cs) = words_after_all (words_after ws c) cs

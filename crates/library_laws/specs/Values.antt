-- The values of an answer as the library writes them: behind the case, four of them
use Rattle.std.specs.Prelude.{ℕ, suc, List, [], ◌∷◌, ◌++◌, eqb, length, take, drop, replicate, ◌≡◌}
use Rattle.choice.specs.Choice.{when◌then◌else◌}
use Rattle.queue_record.specs.Refusals.{done}
use Rattle.cleanup_queue.specs.Answers.{Said, says}
use Rattle.log_reader.specs.Reader.{read_says}
use Rattle.queue_words.specs.Words.{word, words_of}
use Rattle.queue_words.specs.Exported.{Exported, exported}
use Rattle.queue_record.specs.declared.answered.Answered.{Answered}
use Rattle.log_reader.specs.Types.{Read}

-- R138: an answer's values, with 0 where there are fewer than four
abbrev pub padded : List ℕ → List ℕ
padded values = take 4 (values ++ replicate 4 0)

abbrev pub values_in : Exported → List ℕ
values_in x = drop 1 x.answer

-- number and values are those of R138
pub record TellsWords (x : Exported) (s : Said) : Type 0 where
  pub number : x.result ≡ s.number
  pub values : values_in x ≡ padded s.values

-- ---- an answer's five words, by what is said: the case is 0 for a refusal
-- register, land, complete, retry, cancel and domain: 1 for done, and the values
abbrev pub plain_words : Said → List ℕ
plain_words s = (when eqb s.number done then 1 else 0) ∷ padded s.values

-- pop: 1 for nothing, 2 for work, which has values
abbrev pub work_words : Said → List ℕ
work_words s = (when eqb s.number done then (when eqb (length s.values) 0 then 1 else 2) else 0) ∷ padded s.values

-- admit, end and the questions: 1 for no, 2 for yes, and no value
abbrev pub yes_no_words : Said → List ℕ
yes_no_words s = (when eqb s.number done then suc (word s.values 0) else 0) ∷ padded []

-- what a call hands back that says s, in one of these forms, and leaves these words
abbrev pub written_as : (Said → List ℕ) → Said → List ℕ → Exported
written_as form s ws = exported s.number (form s) ws

-- the reader: its number, the rows or the place, and the words of the queue that it gives
abbrev pub read_written : Answered Read → Exported
read_written r = written_as plain_words (says (read_says r.answer).0 ((read_says r.answer).1 ∷ [])) (words_of r.queue)

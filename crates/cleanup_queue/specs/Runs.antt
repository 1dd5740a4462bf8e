-- Runs: any calls with any inputs, one after the other, the attempts that they hand out, and the tokens that they give
use Rattle.std.specs.Prelude.{ℕ, zero, suc, ◌+◌, ◌<◌, ◌≤◌, ◌≡◌, Bool, List, [], ◌∷◌, ◌++◌, length, Some, None, Ok, Err}
use Rattle.queue_record.specs.declared.record.Ticket.{Ticket}
use Rattle.queue_record.specs.declared.record.Queue.{Queue}
use Rattle.queue_births.specs.Births.{registered, landed}
use Rattle.queue_steps.specs.Attempts.{popped, completed, retried}
use Rattle.queue_stages.specs.Stages.{admitted, ended, cancelled_by}
use Rattle.queue_births.specs.Types.{Registered}
use Rattle.queue_steps.specs.Types.{Popped}

pub data Call : Type 0 where
  register : ℕ → Call
  land : ℕ → Call
  pop : Call
  complete : Ticket → ℕ → ℕ → Call
  retry : Call
  -- whether a target is given and matches
  admit : Bool → Call
  end : Call
  cancel : Call

-- the record that a call leaves
abbrev pub after : Queue → Call → Queue
after q (register number) = (registered q number).queue
after q (land number) = (landed q number).queue
after q pop = (popped q).queue
after q (complete ticket outcome kept) = (completed q ticket outcome kept).queue
after q retry = (retried q).queue
after q (admit matched) = (admitted q matched).queue
after q end = (ended q).queue
after q cancel = (cancelled_by q).queue

abbrev pub after_all : Queue → List Call → Queue
after_all q [] = q
after_all q (c ∷ cs) = after_all (after q c) cs

-- the attempt that an answer of pop hands out, if it does
abbrev pub attempt_of : Popped → List ℕ
attempt_of (Ok (Some (t, number))) = t.attempt ∷ []
attempt_of (Ok None) = []
attempt_of (Err n) = []

abbrev pub handed_by : Queue → Call → List ℕ
handed_by q (register number) = []
handed_by q (land number) = []
handed_by q pop = attempt_of (popped q).answer
handed_by q (complete ticket outcome kept) = []
handed_by q retry = []
handed_by q (admit matched) = []
handed_by q end = []
handed_by q cancel = []

-- the attempts that a run hands out, in order
abbrev pub attempts : Queue → List Call → List ℕ
attempts q [] = []
attempts q (c ∷ cs) = handed_by q c ++ attempts (after q c) cs

-- the token that an answer of register or land gives, if it does
abbrev pub token_of : Registered → List ℕ
token_of (Ok token) = token ∷ []
token_of (Err (n, given)) = []

abbrev pub tokens_born_by : Queue → Call → List ℕ
tokens_born_by q (register number) = token_of (registered q number).answer
tokens_born_by q (land number) = token_of (landed q number).answer
tokens_born_by q pop = []
tokens_born_by q (complete ticket outcome kept) = []
tokens_born_by q retry = []
tokens_born_by q (admit matched) = []
tokens_born_by q end = []
tokens_born_by q cancel = []

-- the tokens that a run gives, in order
abbrev pub tokens : Queue → List Call → List ℕ
tokens q [] = []
tokens q (c ∷ cs) = tokens_born_by q c ++ tokens (after q c) cs

-- each is larger than the one before
pub data Rising : List ℕ → Type 0 where
  none : Rising []
  one : (a : ℕ) → Rising (a ∷ [])
  more : (a b : ℕ) (rest : List ℕ) → a < b → Rising (b ∷ rest) → Rising (a ∷ b ∷ rest)

-- n numbers from b on, none left out
abbrev pub counted_from : ℕ → ℕ → List ℕ
counted_from b zero = []
counted_from b (suc n) = b ∷ counted_from (suc b) n

-- b, b plus 1, b plus 2 and so on, all below the limit
pub record Counts (b limit : ℕ) (numbers : List ℕ) : Type 0 where
  pub exactly : numbers ≡ counted_from b (length numbers)
  pub below : b + length numbers ≤ limit

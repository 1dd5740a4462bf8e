-- What can be asked of one place
use Rattle.std.specs.Prelude.{ℕ}

pub data Question : Type 0 where
  -- the place is free
  Free : Question
  -- free, and not blank
  Littered : Question
  Live : Question
  -- live under this id
  HoldsId : ℕ → Question
  -- live under an id that is not below this next id
  PastNext : ℕ → Question
  -- live with a queue that is not well formed or not of this base plus the id
  Foreign : ℕ → Question
  Pending : Question
  Issued : Question
  Failed : Question
  -- failed, and no retry is allowed
  Stuck : Question
  -- it keeps can_finish from saying yes
  Unfinished : Question
  Undrained : Question

-- A whole list registered: the separate calls that it stands for, when it is refused, and how many it takes
use Rattle.std.specs.Prelude.{ℕ, suc, ◌+◌, ◌≡◌, List, [], ◌∷◌, ◌++◌, eqb, take, drop}
use Rattle.choice.specs.Choice.{when◌then◌else◌}
use Rattle.queue_record.specs.Refusals.{result_number}
use Rattle.queue_record.specs.declared.record.Queue.{Queue}
use Rattle.queue_births.specs.declared.sequences.RegisteredAll.{RegisteredAll}
use Rattle.cleanup_queue.specs.Answers.{Said, says}
use Rattle.cleanup_queue.specs.Orders.{Ground, register_order, broken_only}
use Rattle.cleanup_queue.specs.Parts.{LeavesSelected}
use Rattle.cleanup_queue.specs.Runs.{Call, register, after_all}
use Rattle.queue_record.specs.declared.answered.Answered.{Answered}

-- R138: its number, and how many were taken, whether it is refused or not
abbrev pub registered_all_says : RegisteredAll → Said
registered_all_says r = says (result_number r.refusal) (r.taken ∷ [])

-- a register for each
abbrev pub registers_of : List ℕ → List Call
registers_of [] = []
registers_of (n ∷ ns) = register n ∷ registers_of ns

-- what refuses the first of some numbers, if there is one
abbrev pub first_order : Queue → List ℕ → List Ground
first_order q [] = []
first_order q (n ∷ ns) = register_order q n

-- register_all that took so many: 1, of an empty list too; then as register of the next one, behind the registers of those
abbrev pub register_all_order : Queue → List ℕ → ℕ → List Ground
register_all_order q ns taken = broken_only q ++ first_order (after_all q (registers_of (take taken ns))) (drop taken ns)

-- how many numbers lie before the first 0; all of them where none is 0
abbrev pub before_zero : List ℕ → ℕ
before_zero [] = 0
before_zero (n ∷ ns) = when eqb n 0 then 0 else suc (before_zero ns)

-- R38: the slots in use get the taken numbers behind them, in their order; the selected ticket, both marks, next and the phase stay
abbrev pub PushesAll : Queue → List ℕ → Answered RegisteredAll → Type 0
PushesAll q ns r =
    (take r.queue.count r.queue.slots ≡ take q.count q.slots ++ take r.answer.taken ns) × (r.queue.count ≡ q.count + r.answer.taken)
    × LeavesSelected q r.queue × (r.queue.phase ≡ q.phase)

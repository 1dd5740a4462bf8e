-- R11: the waiting tokens
use Rattle.std.specs.Prelude.{ℕ, suc, List, [], ◌∷◌, eqb, Option, Some, None}
use Rattle.choice.specs.Choice.{when◌then◌else◌}
use Rattle.queue_record.specs.declared.record.Queue.{Queue}
use Rattle.queue_record.specs.declared.record.Ticket.{Ticket}

-- R5: the places of the numbers other than 0, ascending, where the first number's place is k
abbrev pub occupied : ℕ → List ℕ → List ℕ
occupied k [] = []
occupied k (x ∷ xs) = when eqb x 0 then occupied (suc k) xs else k ∷ occupied (suc k) xs

abbrev pub without : ℕ → List ℕ → List ℕ
without t [] = []
without t (k ∷ ks) = when eqb k t then without t ks else k ∷ without t ks

-- R11: all but the selected ticket's token
abbrev pub others : Option Ticket → List ℕ → List ℕ
others None ks = ks
others (Some t) ks = without t.token ks

abbrev pub waiting : Queue → List ℕ
waiting q = others q.selection (occupied 0 q.slots)

-- what an occupied slot adds to the count of the waiting tokens, and what any slot adds
abbrev pub share_of : ℕ → Option Ticket → ℕ
share_of k None = 1
share_of k (Some t) = when eqb k t.token then 0 else 1

abbrev pub share : Option Ticket → ℕ → ℕ → ℕ
share s k x = when eqb x 0 then 0 else share_of k s

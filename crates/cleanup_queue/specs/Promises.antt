-- When pop may hand out work and what it hands out (R41 to R47), and when can_finish says yes (R56)
use Rattle.std.specs.Prelude.{ℕ, ◌≡◌, ◌⊎◌, Bool, true, false, not, ◌&&◌, ◌||◌, List, [], ◌∷◌, ◌++◌, ltb, Some, None, Ok, Err}
use Rattle.stage.specs.Bindings.{SameMembers}
use Rattle.stage.specs.Phases.{is_pending, is_cancelled}
use Rattle.queue_record.specs.WellFormed.{well_formed, is_selected}
use Rattle.queue_record.specs.Waiting.{waiting}
use Rattle.queue_record.specs.declared.record.Ticket.{Ticket}
use Rattle.queue_record.specs.declared.record.Queue.{Queue}
use Rattle.queue_decisions.specs.Slots.{no_more}
use Rattle.queue_steps.specs.Attempts.{slot, fresh_ticket}
use Rattle.queue_questions.specs.Questions.{nothing_left, committed}
use Rattle.queue_steps.specs.Types.{Popped}

-- nothing is left of some tokens, as is_empty asks it where nothing is selected
abbrev pub is_none : List ℕ → Bool
is_none ks = nothing_left None ks

-- ---- pop
-- the answer hands out work
abbrev pub hands_out : Popped → Bool
hands_out (Ok (Some (t, number))) = true
hands_out (Ok None) = false
hands_out (Err n) = false

-- something may be handed out: the record is well formed, neither issued nor failed, and either a ready ticket is there, or
-- something waits and an attempt number is left
unfoldable pub may_hand_out : Queue → Bool
may_hand_out q = well_formed q && (not q.issued && (not q.failed && (is_selected q.selection || (not (is_none (waiting q)) && ltb q.next no_more))))

-- the fresh ticket t: nothing was selected, its token is the last of the waiting ones, and it carries next
pub record FreshOf (q : Queue) (t : Ticket) : Type 0 where
  pub free : q.selection ≡ None
  pub older : List ℕ
  pub newest : waiting q ≡ older ++ (t.token ∷ [])
  pub carries : t ≡ fresh_ticket q t.token

-- what pop hands out: the ready ticket as it is, or a fresh one; with the number that was in its slot
pub record HandedOut (q : Queue) (t : Ticket) (number : ℕ) : Type 0 where
  pub ticket : (q.selection ≡ Some t) ⊎ FreshOf q t
  pub held : number ≡ slot q t.token
  pub full : number ≡ 0 → ⊥

-- ---- can_finish
pub record Finishable (q : Queue) (target : List ℕ) : Type 0 where
  pub sound : well_formed q ≡ true
  pub free : q.selection ≡ None
  pub not_pending : is_pending q.phase ≡ false
  pub not_cancelled : is_cancelled q.phase ≡ false
  pub same : SameMembers target (committed q)

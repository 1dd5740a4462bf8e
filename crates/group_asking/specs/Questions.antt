-- What can be asked of one place: a line for each question
use Rattle.std.specs.Prelude.{ℕ, ◌+◌, Bool, true, false, not, ◌&&◌, ◌||◌, List, eqb, leb, Ok, Err}
use Rattle.choice.specs.Choice.{when◌then◌else◌}
use Rattle.stage.specs.Phases.{is_pending, is_settled}
use Rattle.queue_record.specs.WellFormed.{well_formed}
use Rattle.queue_record.specs.Blank.{is_blank}
use Rattle.queue_record.specs.declared.record.Queue.{Queue}
use Rattle.queue_questions.specs.Questions.{is_empty_told, can_retry_told, can_finish_told}
use Rattle.group_record.specs.declared.record.Place.{Place}
use Rattle.group_asking.specs.Question.{Question, Free, Littered, Live, HoldsId, PastNext, Foreign, Pending, Issued, Failed, Stuck, Unfinished, Undrained}
use Rattle.queue_questions.specs.Types.{Told}

abbrev pub is_yes : Told → Bool
is_yes (Ok answer) = answer
is_yes (Err n) = false

-- R98, R104: of a live place: its queue is well formed, and its domain is base and id added
abbrev pub belongs_to : ℕ → ℕ → Queue → Bool
belongs_to base id q = eqb q.domain (base + id) && well_formed q

-- R105, denied: a free place with another id than 0, or another queue than the blank one
abbrev pub littered : ℕ → Queue → Bool
littered id q = not (eqb id 0 && is_blank q)

-- R116, denied of one group: it has failed and can't be retried; as in upstream's can_retry_all
abbrev pub stuck : Queue → Bool
stuck q = q.failed && not (is_yes (can_retry_told q))

-- R118: neither pending nor failed; the queue's own can_finish is asked of every id but 0
abbrev pub finishes : ℕ → Queue → List ℕ → Bool
finishes id q target = not (is_pending q.phase) && (not q.failed && (eqb id 0 || is_yes (can_finish_told q target)))

-- R109: nothing in it, settled and not pending
unfoldable pub drained : Queue → Bool
drained q = is_yes (is_empty_told q) && (is_settled q.phase && not (is_pending q.phase))

-- of a live place with this id and queue; the target is looked at by Unfinished alone
abbrev pub asks_live : Question → ℕ → Queue → List ℕ → Bool
asks_live Free id q target = false
asks_live Littered id q target = false
asks_live Live id q target = true
asks_live (HoldsId other) id q target = eqb id other
asks_live (PastNext next) id q target = leb next id
asks_live (Foreign base) id q target = not (belongs_to base id q)
asks_live Pending id q target = is_pending q.phase
asks_live Issued id q target = q.issued
asks_live Failed id q target = q.failed
asks_live Stuck id q target = stuck q
asks_live Unfinished id q target = not (finishes id q target)
asks_live Undrained id q target = not (drained q)

-- of a free place: what is asked of live ones is answered no
abbrev pub asks_free : Question → ℕ → Queue → Bool
asks_free Free id q = true
asks_free Littered id q = littered id q
asks_free Live id q = false
asks_free (HoldsId other) id q = false
asks_free (PastNext next) id q = false
asks_free (Foreign base) id q = false
asks_free Pending id q = false
asks_free Issued id q = false
asks_free Failed id q = false
asks_free Stuck id q = false
asks_free Unfinished id q = false
asks_free Undrained id q = false

abbrev pub asks_of : Question → List ℕ → Place → Bool
asks_of question target p = when p.live then asks_live question p.id p.queue target else asks_free question p.id p.queue

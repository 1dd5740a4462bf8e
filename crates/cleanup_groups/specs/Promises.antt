-- The words in which the laws of the groups are stated
use Rattle.std.specs.Prelude.{ℕ, ◌+◌, ◌<◌, ◌≤◌, ◌≡◌, Bool, true, false, set, [], None}
use Rattle.queue_record.specs.Refusals.{done, refusal_number}
use Rattle.queue_record.specs.declared.refusal.Refusal.{Refusal}
use Rattle.queue_record.specs.Record.{Sized}
use Rattle.queue_record.specs.WellFormed.{well_formed}
use Rattle.queue_record.specs.declared.record.Queue.{Queue}
use Rattle.queue_steps.specs.Attempts.{slot}
use Rattle.group_record.specs.Record.{place_at, queue_at, live_place}
use Rattle.group_record.specs.declared.record.Groups.{Groups}
use Rattle.group_check.specs.WellFormed.{last_base, ids, well_grouped}
use Rattle.stage.specs.Phases.{is_pending, is_settled}
use Rattle.queue_record.specs.Waiting.{waiting}
use Rattle.queue_record.specs.Blank.{is_blank}

-- the place i holds a live group
abbrev pub LiveAt : Groups → ℕ → Type 0
LiveAt g i = (place_at g i).live ≡ true

abbrev pub id_at : Groups → ℕ → ℕ
id_at g i = (place_at g i).id

-- R101: a well-formed group record, read place by place (sound_means, means_sound: it is the check's answer)
pub record Sound (g : Groups) : Type 0 where
  pub base : g.base ≤ last_base
  pub next : g.next ≤ ids
  pub distinct : (i j : ℕ) → i < 16 → j < 16 → LiveAt g i → LiveAt g j → id_at g i ≡ id_at g j → i ≡ j
  pub below : (i : ℕ) → i < 16 → LiveAt g i → id_at g i < g.next
  pub queues : (i : ℕ) → i < 16 → LiveAt g i → well_formed (queue_at g i) ≡ true
  pub domains : (i : ℕ) → i < 16 → LiveAt g i → (queue_at g i).domain ≡ g.base + id_at g i
  pub free : (i : ℕ) → i < 16 → (place_at g i).live ≡ false → (id_at g i ≡ 0) × (is_blank (queue_at g i) ≡ true)
  pub sealed : g.sealed ≡ true → (i : ℕ) → i < 16 → (place_at g i).live ≡ false

-- some place is live under this id
abbrev pub IsLive : Groups → ℕ → Type 0
IsLive g id = (i : ℕ) × (i < 16) × LiveAt g i × (id_at g i ≡ id)

-- some live group answers yes; the question is put to its id and its queue
abbrev pub SomeLive : Groups → (ℕ → Queue → Bool) → Type 0
SomeLive g asks = (i : ℕ) × (i < 16) × LiveAt g i × (asks (id_at g i) (queue_at g i) ≡ true)

-- every live group answers yes
abbrev pub EveryLive : Groups → (ℕ → Queue → Bool) → Type 0
EveryLive g asks = (i : ℕ) → i < 16 → LiveAt g i → asks (id_at g i) (queue_at g i) ≡ true

-- R109, in parts: no undo in any slot, none selected, out or failed, and no pending stage
pub record DrainedQueue (q : Queue) : Type 0 where
  pub selection : q.selection ≡ None
  pub slots : (k : ℕ) → slot q k ≡ 0
  pub waiting : waiting q ≡ []
  pub issued : q.issued ≡ false
  pub failed : q.failed ≡ false
  pub settled : is_settled q.phase ≡ true
  pub pending : is_pending q.phase ≡ false

-- R64, R107: a group may be opened: the record is sound and not sealed, a place is free, and an id is left
abbrev pub RoomToOpen : Groups → Type 0
RoomToOpen g = (well_grouped g ≡ true) × (g.sealed ≡ false) × ((i : ℕ) × (i < 16) × ((place_at g i).live ≡ false)) × (g.next < 65536)

-- R107, R108: the record h after g, in which the queue q was opened under the id n
pub record AddedAs (g : Groups) (n : ℕ) (q : Queue) (h : Groups) : Type 0 where
  pub id : n ≡ g.next
  pub next : h.next ≡ g.next + 1
  pub unsealed : h.sealed ≡ false
  pub base : h.base ≡ g.base
  pub place : ℕ
  pub inside : place < 16
  pub was : (place_at g place).live ≡ false
  pub lowest : (j : ℕ) → j < place → LiveAt g j
  pub live : LiveAt h place
  pub named : id_at h place ≡ n
  pub queue : queue_at h place ≡ q
  -- and no other place is stored to
  pub places : h.places ≡ set g.places place (live_place n q)

-- R114: the record h is g with other queues; what groups there are stays
pub record Frame (g h : Groups) : Type 0 where
  pub base : h.base ≡ g.base
  pub next : h.next ≡ g.next
  pub sealed : h.sealed ≡ g.sealed
  pub marks : (i : ℕ) → (place_at h i).live ≡ (place_at g i).live
  pub ids : (i : ℕ) → id_at h i ≡ id_at g i

-- the queue of every place has its 64 slots and 16 bindings
abbrev pub AllSized : Groups → Type 0
AllSized g = (i : ℕ) → i < 16 → Sized (queue_at g i)

-- R63: where the answer is a refusal its number is not 0, which is said of what is done alone
abbrev pub Numbered : {A : Type 0} → (Refusal → A) → A → Type 0
Numbered refused answer = (r : Refusal) → answer ≡ refused r → refusal_number r ≡ done → ⊥

-- Every free place of a well-formed record is the same: id 0 and the blank queue
use Prim.Native.Nat.{ℕ, ◌<◌}
use mathlib.Core.Path.{◌≡◌}
use mathlib.Core.Bool.{Bool, true, false}
use lib.ListN.{length}
use Rattle.queue_record.specs.declared.record.Queue.{Queue}
use Rattle.queue_record.proofs.BlankOnly.{blank_only}
use Rattle.group_record.specs.Record.{place_at, queue_at, free_place}
use Rattle.group_record.specs.declared.record.Place.{Place}
use Rattle.group_record.specs.declared.record.Groups.{Groups}
use Rattle.group_check.specs.WellFormed.{well_grouped}
use Rattle.cleanup_groups.specs.Promises.{AllSized}
use Rattle.cleanup_groups.proofs.Sounds.{sound_means}

same_place : {n n' : ℕ} {b b' : Bool} {q q' : Queue} → n ≡ n' → b ≡ b' → q ≡ q' → ◌≡◌ {A = Place} (record { id = n; live = b; queue = q }) (record { id = n'; live = b'; queue = q' })
same_place n b q = rw (n, b, q)

pub free_blank : (g : Groups) (i : ℕ) → length g.places ≡ 16 → AllSized g → well_grouped g ≡ true → i < 16 → (place_at g i).live ≡ false → place_at g i ≡ free_place
free_blank g i l z w k f = let s = (sound_means g l w).free i k f in same_place s.0 f (blank_only (queue_at g i) (z i k) s.1)

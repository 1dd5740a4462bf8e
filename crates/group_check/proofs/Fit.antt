-- A well-formed group record, clause by clause: taken apart, and put together
use Prim.Native.Nat.{◌≤◌}
use mathlib.Core.Path.{◌≡◌, ◌∙◌}
use mathlib.Core.Bool.{true}
use borrow.Author.Tests.{le-leb, leb-true}
use Rattle.choice.proofs.Ways.{pass}
use Rattle.queue_record.proofs.Fit.{all_at}
use Rattle.group_check.specs.WellFormed.{last_base, ids, distinct_ids, ids_below, queues_fit, free_fits, sealed_fits, group_clauses, well_grouped}
use Rattle.group_record.specs.declared.record.Groups.{Groups}

pub record Fit (g : Groups) : Type 0 where
  pub base : g.base ≤ last_base
  pub next : g.next ≤ ids
  pub distinct : distinct_ids g.places ≡ true
  pub below : ids_below g ≡ true
  pub queues : queues_fit g ≡ true
  pub free : free_fits g ≡ true
  pub sealed : sealed_fits g ≡ true

pub fit : (g : Groups) → well_grouped g ≡ true → Fit g
unfolding well_grouped
fit g h = record {
  base = leb-true _ _ (all_at (group_clauses g) 0 h);
  next = leb-true _ _ (all_at (group_clauses g) 1 h);
  distinct = all_at (group_clauses g) 2 h;
  below = all_at (group_clauses g) 3 h;
  queues = all_at (group_clauses g) 4 h;
  free = all_at (group_clauses g) 5 h;
  sealed = all_at (group_clauses g) 6 h;
}

pub fits : (g : Groups) → Fit g → well_grouped g ≡ true
unfolding well_grouped
fits g f = pass _ (le-leb _ _ f.base) ∙ (pass _ (le-leb _ _ f.next) ∙ (pass _ f.distinct ∙ (pass _ f.below ∙ (pass _ f.queues ∙ (pass _ f.free ∙ pass _ f.sealed)))))

-- What each question to all groups means, exactly, over the live ones
use Prim.Native.Nat.{ℕ, ◌<◌}
use mathlib.Core.Path.{◌≡◌, refl, sym, ap, ◌∙◌}
use mathlib.Core.Bool.{Bool, true, false, not, ◌&&◌, ◌||◌}
use mathlib.Core.List.{List, []}
use native.Mathlib.Omega.{arith}
use borrow.Author.Tests.{eq-eqb, ne_eqb, eqb-true, not-true, not-false}
use lib.ListN.{length}
use Rattle.choice.specs.Choice.{when◌then◌else◌}
use Rattle.stage.specs.Phases.{is_pending}
use Rattle.choice.proofs.Ways.{miss, pass, clash, and_left, and_right}
use Rattle.queue_record.specs.declared.refusal.Refusal.TheVariants.{Broken}
use Rattle.queue_record.specs.declared.record.Queue.{Queue}
use Rattle.queue_questions.specs.Questions.{yes_or_no, can_finish_told}
use Rattle.group_record.specs.Record.{place_at, queue_at}
use Rattle.group_asking.specs.Questions.{is_yes, stuck, finishes, drained, asks_live, asks_free, asks_of}
use Rattle.group_asking.specs.Scan.{some_yes}
use Rattle.group_check.specs.WellFormed.{well_grouped}
use Rattle.group_record.specs.declared.record.Groups.{Groups}
use Rattle.group_asking.specs.Question.{Question, HoldsId, Pending, Issued, Failed, Stuck, Unfinished, Undrained}
use Rattle.group_survey.specs.Whole.{told_of, contains_told, has_pending_of, has_issued_of, has_failed_of, retries_all, can_retry_all_of, can_finish_of, can_seal_of}
use Rattle.cleanup_groups.specs.Promises.{LiveAt, id_at, IsLive, SomeLive, EveryLive}
use Rattle.cleanup_groups.proofs.Every.{none_each, each_none, some_one, one_some}
use Rattle.cleanup_groups.proofs.Sounds.{says_live, says_free, says_no, sound_means}
use Rattle.std.specs.Prelude.{Ok, Err}

-- ---- a question answered yes
pub told_yes : (g : Groups) (b : Bool) → told_of g b ≡ Ok true → (well_grouped g ≡ true) × (b ≡ true)
told_yes g b h = go (well_grouped g) refl b refl h
  where
    go : (w : Bool) → well_grouped g ≡ w → (c : Bool) → b ≡ c → (when not w then Err Broken else yes_or_no c) ≡ Ok true → (well_grouped g ≡ true) × (b ≡ true)
    go true e true f h = (e, f)
    go true e false f h = let z : ◌≡◌ {A = ℕ} 0 1 = cc in absurd (omega arith)
    go false e c f h = let z : ◌≡◌ {A = ℕ} 0 1 = cc in absurd (omega arith)

pub yes_told : (g : Groups) (b : Bool) → well_grouped g ≡ true → b ≡ true → told_of g b ≡ Ok true
yes_told g b w e = miss _ (ap not w) ∙ ap yes_or_no e

-- ---- a question that is put to live groups alone
module _ (g : Groups) (l : length g.places ≡ 16) (question : Question) (target : List ℕ) (only : (id : ℕ) (q : Queue) → asks_free question id q ≡ false) where
  abbrev asks : ℕ → Queue → Bool
  asks id q = asks_live question id q target

  is_live : (i : ℕ) → asks_of question target (place_at g i) ≡ true → LiveAt g i
  is_live i h = go (place_at g i).live refl
    where
      go : (b : Bool) → (place_at g i).live ≡ b → LiveAt g i
      go true e = e
      go false e = clash h (says_free question target (place_at g i) e ∙ only (id_at g i) (queue_at g i))

  some_means : some_yes g question target ≡ true → SomeLive g asks
  some_means h =
      let w = some_one (asks_of question target) g.places h in
      let k : w.0 < length g.places = w.1 in
      let a : LiveAt g w.0 = is_live w.0 w.2 in
      (w.0, omega arith, a, sym (says_live question target (place_at g w.0) a) ∙ w.2)

  pub means_some : SomeLive g asks → some_yes g question target ≡ true
  means_some w =
      let k : w.0 < 16 = w.1 in
      one_some (asks_of question target) g.places w.0 (omega arith) (says_live question target (place_at g w.0) w.2 ∙ w.3)

  pub none_means : some_yes g question target ≡ false → EveryLive g (λ id q. not (asks id q))
  none_means h i k a = ap not (sym (says_live question target (place_at g i) a) ∙ none_each (asks_of question target) 0 g.places h i (omega arith))

  pub means_none : EveryLive g (λ id q. not (asks id q)) → some_yes g question target ≡ false
  means_none f = each_none (asks_of question target) 0 g.places (λ i k. says_no question target (place_at g i) (λ a. not-true _ (f i (omega arith) a)) (λ a. only (id_at g i) (queue_at g i)))

-- ---- each of them
module _ (g : Groups) (l : length g.places ≡ 16) where
  -- has_pending: some live group's stage is pending
  pub pending_means : has_pending_of g ≡ Ok true → SomeLive g (λ id q. is_pending q.phase)
  pending_means h = some_means g l Pending [] (λ _ _. refl) (told_yes g (some_yes g Pending []) h).1

  pub means_pending : well_grouped g ≡ true → SomeLive g (λ id q. is_pending q.phase) → has_pending_of g ≡ Ok true
  means_pending w s = yes_told g (some_yes g Pending []) w (means_some g l Pending [] (λ _ _. refl) s)

  -- has_issued: some live group has an undo out
  pub issued_means : has_issued_of g ≡ Ok true → SomeLive g (λ id q. q.issued)
  issued_means h = some_means g l Issued [] (λ _ _. refl) (told_yes g (some_yes g Issued []) h).1

  pub means_issued : well_grouped g ≡ true → SomeLive g (λ id q. q.issued) → has_issued_of g ≡ Ok true
  means_issued w s = yes_told g (some_yes g Issued []) w (means_some g l Issued [] (λ _ _. refl) s)

  -- has_failed: some live group has failed
  pub failed_means : has_failed_of g ≡ Ok true → SomeLive g (λ id q. q.failed)
  failed_means h = some_means g l Failed [] (λ _ _. refl) (told_yes g (some_yes g Failed []) h).1

  pub means_failed : well_grouped g ≡ true → SomeLive g (λ id q. q.failed) → has_failed_of g ≡ Ok true
  means_failed w s = yes_told g (some_yes g Failed []) w (means_some g l Failed [] (λ _ _. refl) s)

  -- can_retry_all: some live group has failed, and each that has may be retried
  pub retries_means : retries_all g ≡ true → SomeLive g (λ id q. q.failed) × EveryLive g (λ id q. not (stuck q))
  retries_means h = (
    some_means g l Failed [] (λ _ _. refl) (and_left (some_yes g Failed []) (not (some_yes g Stuck [])) h),
    none_means g l Stuck [] (λ _ _. refl) (not-true _ (and_right (some_yes g Failed []) (not (some_yes g Stuck [])) h)),
  )

  pub retry_all_means : can_retry_all_of g ≡ Ok true → SomeLive g (λ id q. q.failed) × EveryLive g (λ id q. not (stuck q))
  retry_all_means h = retries_means (told_yes g (retries_all g) h).1

  pub means_retry_all : well_grouped g ≡ true → SomeLive g (λ id q. q.failed) → EveryLive g (λ id q. not (stuck q)) → can_retry_all_of g ≡ Ok true
  means_retry_all w s f = yes_told g (retries_all g) w (pass _ (means_some g l Failed [] (λ _ _. refl) s) ∙ ap not (means_none g l Stuck [] (λ _ _. refl) f))

  -- can_finish: every live group finishes
  pub finish_means_lem : (target : List ℕ) → can_finish_of g target ≡ Ok true → EveryLive g (λ id q. finishes id q target)
  finish_means_lem target h i k a = not-false _ (not-true _ (none_means g l Unfinished target (λ _ _. refl) (not-true _ (told_yes g (not (some_yes g Unfinished target)) h).1) i k a))

  pub means_finish : (target : List ℕ) → well_grouped g ≡ true → EveryLive g (λ id q. finishes id q target) → can_finish_of g target ≡ Ok true
  means_finish target w f = yes_told g (not (some_yes g Unfinished target)) w (ap not (means_none g l Unfinished target (λ _ _. refl) (λ i k a. ap not (ap not (f i k a)))))

  -- can_seal: every live group is drained
  pub seal_means : can_seal_of g ≡ Ok true → EveryLive g (λ id q. drained q)
  seal_means h i k a = not-false _ (not-true _ (none_means g l Undrained [] (λ _ _. refl) (not-true _ (told_yes g (not (some_yes g Undrained [])) h).1) i k a))

  pub means_seal : well_grouped g ≡ true → EveryLive g (λ id q. drained q) → can_seal_of g ≡ Ok true
  means_seal w f = yes_told g (not (some_yes g Undrained [])) w (ap not (means_none g l Undrained [] (λ _ _. refl) (λ i k a. ap not (ap not (f i k a)))))

  -- and so of a sealed record, which has none live, though seal gives 12
  pub sealed_may_seal : well_grouped g ≡ true → g.sealed ≡ true → can_seal_of g ≡ Ok true
  sealed_may_seal w s = means_seal w (λ i k a. clash a ((sound_means g l w).sealed s i k))

  -- contains: the id is live
  pub contains_means : (id : ℕ) → contains_told g id ≡ Ok true → IsLive g id
  contains_means id h = let w = some_means g l (HoldsId id) [] (λ _ _. refl) (told_yes g (some_yes g (HoldsId id) []) h).1 in (w.0, w.1, w.2, eqb-true _ _ w.3)

  pub means_contains : (id : ℕ) → well_grouped g ≡ true → IsLive g id → contains_told g id ≡ Ok true
  means_contains id w v = yes_told g (some_yes g (HoldsId id) []) w (means_some g l (HoldsId id) [] (λ _ _. refl) (v.0, v.1, v.2, eq-eqb _ _ v.3))

-- ---- what can_finish asks of the root and of the others
pub finishes_root : (q : Queue) (target : List ℕ) → finishes 0 q target ≡ (not (is_pending q.phase) && not q.failed)
finishes_root q target = go (is_pending q.phase) q.failed
  where
    go : (a b : Bool) → (not a && (not b && true)) ≡ (not a && not b)
    go true b = refl
    go false true = refl
    go false false = refl

pub finishes_other : (id : ℕ) (q : Queue) (target : List ℕ) → (id ≡ 0 → ⊥) → finishes id q target ≡ (not (is_pending q.phase) && (not q.failed && is_yes (can_finish_told q target)))
finishes_other id q target n = ap (λ (b : Bool). not (is_pending q.phase) && (not q.failed && (b || is_yes (can_finish_told q target)))) (ne_eqb id 0 n)

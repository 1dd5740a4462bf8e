-- The check answers yes exactly if the record is sound, place by place
use Prim.Native.Nat.{ℕ, zero, suc, ◌+◌, ◌<◌, ◌≤◌}
use mathlib.Core.Path.{◌≡◌, refl, sym, ap, ◌∙◌}
use mathlib.Core.Bool.{Bool, true, false, not, ◌&&◌}
use mathlib.Core.List.{List, [], ◌∷◌}
use native.Mathlib.Omega.{arith}
use borrow.Author.Tests.{eq-eqb, ne_eqb, eqb-true, leb-false, lt-leb, ltb-true, ltb-false, not-true, not-false}
use lib.Dec.{eqb, ltb}
use lib.ListN.{length, get_or}
use Rattle.choice.specs.Choice.{when◌then◌else◌, implies}
use Rattle.choice.proofs.Ways.{hit, miss, pass, stop, and_left, and_right, clash, if_by}
use Rattle.queue_record.specs.Newest.{is_there}
use Rattle.queue_record.specs.WellFormed.{well_formed}
use Rattle.queue_record.specs.Blank.{is_blank}
use Rattle.group_record.specs.Record.{nowhere, place_at, queue_at}
use Rattle.group_asking.specs.Questions.{belongs_to, asks_live, asks_free, asks_of}
use Rattle.group_asking.specs.Scan.{first_from, some_yes}
use Rattle.group_check.specs.WellFormed.{clashes, distinct_ids, queues_fit, free_fits, sealed_fits, well_grouped}
use Rattle.group_record.specs.declared.record.Place.{Place}
use Rattle.group_record.specs.declared.record.Groups.{Groups}
use Rattle.group_asking.specs.Question.{Question, Littered, Live, HoldsId, PastNext, Foreign}
use Rattle.group_check.proofs.Fit.{Fit, fit, fits}
use Rattle.cleanup_groups.specs.Promises.{LiveAt, id_at, Sound}
use Rattle.cleanup_groups.proofs.Every.{none_each, each_none}

-- ---- one place, by its mark
module _ (question : Question) (target : List ℕ) (p : Place) where
  pub says_live : p.live ≡ true → asks_of question target p ≡ asks_live question p.id p.queue target
  says_live l = hit _ l

  pub says_free : p.live ≡ false → asks_of question target p ≡ asks_free question p.id p.queue
  says_free l = miss _ l

  pub says_no : (p.live ≡ true → asks_live question p.id p.queue target ≡ false) → (p.live ≡ false → asks_free question p.id p.queue ≡ false) → asks_of question target p ≡ false
  says_no f h = if_by (λ (b : Bool). b ≡ false) p.live _ _ f h

-- ---- distinct ids, pair by pair
distinct_each : (ps : List Place) → distinct_ids ps ≡ true → (i j : ℕ) → i < j → j < length ps
    → (get_or ps i nowhere).live ≡ true → (get_or ps j nowhere).live ≡ true → (get_or ps i nowhere).id ≡ (get_or ps j nowhere).id → ⊥
distinct_each [] h i j l k a b e = omega arith
distinct_each (p ∷ ps) h i zero l k a b e = omega arith
distinct_each (p ∷ ps) h zero (suc j) l k a b e =
    let n : clashes p ps ≡ false = not-true _ (and_left (not (clashes p ps)) (distinct_ids ps) h) in
    let t : is_there (first_from (asks_of (HoldsId p.id) []) 0 ps) ≡ false = sym (pass _ a) ∙ n in
    let s : asks_of (HoldsId p.id) [] (get_or ps j nowhere) ≡ false = none_each (asks_of (HoldsId p.id) []) 0 ps t j (omega arith) in
    clash (eq-eqb (get_or ps j nowhere).id p.id (sym e)) (sym (says_live (HoldsId p.id) [] (get_or ps j nowhere) b) ∙ s)
distinct_each (p ∷ ps) h (suc i) (suc j) l k a b e = distinct_each ps (and_right (not (clashes p ps)) (distinct_ids ps) h) i j (omega arith) (omega arith) a b e

each_distinct : (ps : List Place)
    → ((i j : ℕ) → i < j → j < length ps → (get_or ps i nowhere).live ≡ true → (get_or ps j nowhere).live ≡ true → (get_or ps i nowhere).id ≡ (get_or ps j nowhere).id → ⊥)
    → distinct_ids ps ≡ true
each_distinct [] f = refl
each_distinct (p ∷ ps) f = pass _ (ap not (go p.live refl)) ∙ each_distinct ps (λ i j l k a b e. f (suc i) (suc j) (omega arith) (omega arith) a b e)
  where
    apart : p.live ≡ true → is_there (first_from (asks_of (HoldsId p.id) []) 0 ps) ≡ false
    apart a =
        each_none (asks_of (HoldsId p.id) []) 0 ps
        (λ j l. says_no (HoldsId p.id) [] (get_or ps j nowhere)
        (λ b. ne_eqb (get_or ps j nowhere).id p.id (λ e. f 0 (suc j) (omega arith) (omega arith) a b (sym e))) (λ b. refl))

    go : (b : Bool) → p.live ≡ b → clashes p ps ≡ false
    go true a = pass _ a ∙ apart a
    go false a = stop _ a

-- ---- the record
module _ (g : Groups) (l : length g.places ≡ 16) where
  at : {i : ℕ} → i < 16 → i < length g.places
  at h = omega arith

  -- none says yes: the place i says no
  said : (question : Question) → not (some_yes g question []) ≡ true → (i : ℕ) → i < 16 → asks_of question [] (place_at g i) ≡ false
  said question h i k = none_each (asks_of question []) 0 g.places (not-true _ h) i (at k)

  told : (question : Question) → ((i : ℕ) → i < 16 → asks_of question [] (place_at g i) ≡ false) → not (some_yes g question []) ≡ true
  told question f = ap not (each_none (asks_of question []) 0 g.places (λ i k. f i (omega arith)))

  pair : distinct_ids g.places ≡ true → (i j : ℕ) → i < 16 → j < 16 → LiveAt g i → LiveAt g j → id_at g i ≡ id_at g j → i ≡ j
  pair h i j a b x y e = go (ltb i j) refl (ltb j i) refl
    where
      go : (s : Bool) → ltb i j ≡ s → (t : Bool) → ltb j i ≡ t → i ≡ j
      go true s t u = absurd (distinct_each g.places h i j (ltb-true _ _ s) (at b) x y e)
      go false s true u = absurd (distinct_each g.places h j i (ltb-true _ _ u) (at a) y x (sym e))
      go false s false u = let m : j ≤ i = ltb-false i j s in let n : i ≤ j = ltb-false j i u in omega arith

  own : (i : ℕ) → i < 16 → LiveAt g i → queues_fit g ≡ true → belongs_to g.base (id_at g i) (queue_at g i) ≡ true
  own i k a h = not-false _ (sym (says_live (Foreign g.base) [] (place_at g i) a) ∙ said (Foreign g.base) h i k)

  clean : (i : ℕ) → i < 16 → (place_at g i).live ≡ false → free_fits g ≡ true → (eqb (id_at g i) 0 && is_blank (queue_at g i)) ≡ true
  clean i k a h = not-false _ (sym (says_free Littered [] (place_at g i) a) ∙ said Littered h i k)

  unlive : (b : Bool) → (when b then true else false) ≡ false → b ≡ false
  unlive true h = h
  unlive false h = h

  none_live : g.sealed ≡ true → sealed_fits g ≡ true → (i : ℕ) → i < 16 → (place_at g i).live ≡ false
  none_live s h i k = unlive (place_at g i).live (said Live (sym (ap (λ (b : Bool). implies b (not (some_yes g Live []))) s) ∙ h) i k)

  pub sound_means : well_grouped g ≡ true → Sound g
  sound_means h =
      let f : Fit g = fit g h in
      record {
        base = f.base;
        next = f.next;
        distinct = pair f.distinct;
        below = λ i k a. leb-false _ _ (sym (says_live (PastNext g.next) [] (place_at g i) a) ∙ said (PastNext g.next) f.below i k);
        queues = λ i k a. and_right (eqb (queue_at g i).domain (g.base + id_at g i)) (well_formed (queue_at g i)) (own i k a f.queues);
        domains = λ i k a. eqb-true _ _ (and_left (eqb (queue_at g i).domain (g.base + id_at g i)) (well_formed (queue_at g i)) (own i k a f.queues));
        free = λ i k a. (eqb-true _ _ (and_left (eqb (id_at g i) 0) (is_blank (queue_at g i)) (clean i k a f.free)), and_right (eqb (id_at g i) 0) (is_blank (queue_at g i)) (clean i k a f.free));
        sealed = λ s i k. none_live s f.sealed i k;
      }

  sealed_back : Sound g → (b : Bool) → g.sealed ≡ b → implies b (not (some_yes g Live [])) ≡ true
  sealed_back s false e = refl
  sealed_back s true e = told Live (λ i k. says_no Live [] (place_at g i) (λ a. clash a (s.sealed e i k)) (λ a. refl))

  pub means_sound : Sound g → well_grouped g ≡ true
  means_sound s = fits g (record {
    base = s.base;
    next = s.next;
    distinct = each_distinct g.places (λ i j a b x y e. let z : i ≡ j = s.distinct i j (omega arith) (omega arith) x y e in omega arith);
    below = told (PastNext g.next) (λ i k. says_no (PastNext g.next) [] (place_at g i) (λ a. lt-leb _ _ (s.below i k a)) (λ a. refl));
    queues = told (Foreign g.base) (λ i k. says_no (Foreign g.base) [] (place_at g i) (λ a. ap not (pass _ (eq-eqb _ _ (s.domains i k a)) ∙ s.queues i k a)) (λ a. refl));
    free = told Littered (λ i k. says_no Littered [] (place_at g i) (λ a. refl) (λ a. ap not (pass _ (eq-eqb _ _ (s.free i k a).0) ∙ (s.free i k a).1)));
    sealed = sealed_back s g.sealed refl;
  })

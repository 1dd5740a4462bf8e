-- Histories with whole lists are histories: each list is the separate calls that were taken, so the set of logs is the same
use Prim.Native.Nat.{ℕ, zero, suc}
use mathlib.Core.Path.{◌≡◌, refl, ap, ◌∙◌}
use mathlib.Core.Logic.{◌↔◌}
use mathlib.Core.Bool.{Bool, true, ◌&&◌}
use mathlib.Core.List.{List, [], ◌∷◌, ◌++◌}
use lib.ListN.{take}
use Rattle.choice.proofs.Ways.{pass, and_left, and_right}
use Rattle.queue_record.specs.Openings.{Opening}
use Rattle.cleanup_queue.specs.Runs.{register}
use Rattle.cleanup_queue.specs.WholeLists.{registers_of}
use Rattle.log_language.specs.Readings.{every}
use Rattle.history.specs.Histories.{Bench, called, Start, History, opens, calls, Made, no_call, one_call}
use Rattle.history.specs.Fits.{is_word}
use Rattle.history.specs.Benches.{BenchCall, call_on, words_given, Called, called_none, called_one, LeftIn}
use Rattle.history.specs.ListedHistories.{listed_to, list_answer, ListedHistory, listed_opens, listed_calls, listed_takes}
use Rattle.history.specs.ListedHistories.{Deed, makes_call, takes_list, words_in, Did, did_nothing, did_call, did_list, LeftListed}
use Rattle.history.proofs.Computed.{made_history}
use Rattle.history.proofs.WordLogs.{every_append}
use Rattle.history.proofs.ListMade.{list_made}

pub listed_history : {s : Start} {b : Bench} → ListedHistory s b → History s b
listed_history (listed_opens e) = opens e
listed_history (listed_calls h c z) = calls (listed_history h) c z
listed_history (listed_takes {b} h ns) = made_history (listed_history h) (list_made b ns)

pub history_listed : {s : Start} {b : Bench} → History s b → ListedHistory s b
history_listed (opens e) = listed_opens e
history_listed (calls h c z) = listed_calls (history_listed h) c z

-- ---- the same of what a bench does, each input a word of 64 bits
-- a register for each, as a bench makes it
abbrev registers_by : List ℕ → List BenchCall
registers_by [] = []
registers_by (n ∷ ns) = BenchCall.register n ∷ registers_by ns

made_called : {a b : Bench} (ns : List ℕ) → Made a (registers_of ns) b → Called a (registers_by ns) b
made_called [] no_call = called_none
made_called {a = a} (n ∷ ns) (one_call z m) = called_one z (made_called {a = called a (register n)} ns m)

called_on : {a b c : Bench} {xs ys : List BenchCall} → Called a xs b → Called b ys c → Called a (xs ++ ys) c
called_on called_none m = m
called_on (called_one z l) m = called_one z (called_on l m)

registers_given : (t : ℕ) (ns : List ℕ) → every is_word ns ≡ true → every words_given (registers_by (take t ns)) ≡ true
registers_given zero ns h = refl
registers_given (suc t) [] h = refl
registers_given (suc t) (n ∷ ns) h = pass _ (pass _ (and_left (is_word n) (every is_word ns) h)) ∙ registers_given t ns (and_right (is_word n) (every is_word ns) h)

-- calls alone that lead from one bench to the other
record ByCalls (a b : Bench) : Type 0 where
  calls : List BenchCall
  given : every words_given calls ≡ true
  made : Called a calls b

in_front_lem : {a b c : Bench} (xs : List BenchCall) → every words_given xs ≡ true → Called a xs b → ByCalls b c → ByCalls a c
in_front_lem xs h m l = record { calls = xs ++ l.calls; given = every_append words_given xs l.calls ∙ (pass _ h ∙ l.given); made = called_on m l.made }

by_calls : {a b : Bench} (ds : List Deed) → Did a ds b → every words_in ds ≡ true → ByCalls a b
by_calls [] did_nothing h = record { calls = []; given = refl; made = called_none }
by_calls {a = a} (makes_call c ∷ ds) (did_call z d) h =
    in_front_lem (c ∷ []) (pass _ (and_left (words_given c) (every words_in ds) h)) (called_one z called_none)
    (by_calls {a = called a (call_on a.queue c)} ds d (and_right (words_given c) (every words_in ds) h))
by_calls {a = a} (takes_list ns ∷ ds) (did_list d) h =
    in_front_lem (registers_by (take (list_answer a ns).taken ns)) (registers_given (list_answer a ns).taken ns (and_left (every is_word ns) (every words_in ds) h))
    (made_called (take (list_answer a ns).taken ns) (list_made a ns)) (by_calls {a = listed_to a ns} ds d (and_right (every is_word ns) (every words_in ds) h))

-- and back: a call is a deed
abbrev deeds_of : List BenchCall → List Deed
deeds_of [] = []
deeds_of (c ∷ cs) = makes_call c ∷ deeds_of cs

called_did : {a b : Bench} {cs : List BenchCall} → Called a cs b → Did a (deeds_of cs) b
called_did called_none = did_nothing
called_did (called_one z m) = did_call z (called_did m)

deeds_given : (cs : List BenchCall) → every words_in (deeds_of cs) ≡ every words_given cs
deeds_given [] = refl
deeds_given (c ∷ cs) = ap (λ (b : Bool). words_given c && b) (deeds_given cs)

-- the words that are left with lists are those that are left without
pub left_same : (o : Opening) (memory log : List ℕ) → LeftListed o memory log ↔ LeftIn o memory log
left_same o memory log = (
  λ l. let c = by_calls l.deeds l.did l.given in record { calls = c.calls; given = c.given; end = l.end; made = c.made; words = l.words },
  λ l. record { deeds = deeds_of l.calls; given = deeds_given l.calls ∙ l.given; end = l.end; did = called_did l.made; words = l.words },
)

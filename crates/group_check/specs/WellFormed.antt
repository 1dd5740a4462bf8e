-- R101: when a group record is well formed, a named clause each
use Rattle.std.specs.Prelude.{ℕ, Bool, true, not, ◌&&◌, List, [], ◌∷◌, leb}
use Rattle.choice.specs.Choice.{implies}
use Rattle.queue_record.specs.Newest.{is_there}
use Rattle.queue_record.specs.WellFormed.{all_true}
use Rattle.group_asking.specs.Questions.{asks_of}
use Rattle.group_asking.specs.Scan.{first_from, some_yes}
use Rattle.group_record.specs.declared.record.Place.{Place}
use Rattle.group_record.specs.declared.record.Groups.{Groups}
use Rattle.group_asking.specs.Question.{Littered, Live, HoldsId, PastNext, Foreign}

-- R99: the largest base to which the id 65,535 can be added, with one number to spare
abbrev pub last_base : ℕ
last_base = 18446744073709486079

-- R97: how many ids there are
abbrev pub ids : ℕ
ids = 65536

-- R102: the base has room for every id
abbrev pub base_fits : ℕ → Bool
base_fits base = leb base last_base

-- R102: no id was given past the last
abbrev pub next_fits : ℕ → Bool
next_fits next = leb next ids

-- one of these places is live under the id of the live place p
abbrev pub clashes : Place → List Place → Bool
clashes p ps = p.live && is_there (first_from (asks_of (HoldsId p.id) []) 0 ps)

-- R103: no two live places have one id
abbrev pub distinct_ids : List Place → Bool
distinct_ids [] = true
distinct_ids (p ∷ ps) = not (clashes p ps) && distinct_ids ps

-- R103: and each of these ids was given
abbrev pub ids_below : Groups → Bool
ids_below g = not (some_yes g (PastNext g.next) [])

-- R104: what lives has a sound queue of its own domain
abbrev pub queues_fit : Groups → Bool
queues_fit g = not (some_yes g (Foreign g.base) [])

-- R105: what is free is as nothing ever stood there
abbrev pub free_fits : Groups → Bool
free_fits g = not (some_yes g Littered [])

-- R106: sealing left none live
abbrev pub sealed_fits : Groups → Bool
sealed_fits g = implies g.sealed (not (some_yes g Live []))

abbrev pub group_clauses : Groups → List Bool
group_clauses g =
    base_fits g.base ∷
    next_fits g.next ∷
    distinct_ids g.places ∷
    ids_below g ∷
    queues_fit g ∷
    free_fits g ∷
    sealed_fits g ∷
    []

unfoldable pub well_grouped : Groups → Bool
well_grouped g = all_true (group_clauses g)

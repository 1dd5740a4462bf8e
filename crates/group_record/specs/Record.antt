-- The group record with one part set, and the records that calls make. An added field changes this file and no call
use Rattle.std.specs.Prelude.{ℕ, ◌+◌, true, false, List, [], get_or, set, replicate, None}
use Rattle.stage.specs.declared.phases.Phase.TheVariants.{Idle}
use Rattle.queue_record.specs.Openings.{blank}
use Rattle.queue_record.specs.declared.record.Kind.TheVariants.{Scope}
use Rattle.queue_record.specs.declared.record.Queue.{Queue}
use Rattle.group_record.specs.declared.record.Place.{Place}
use Rattle.group_record.specs.declared.record.Groups.{Groups}

-- what a read past the last place would give: it is the machine's own default, and no call reads there
abbrev pub nowhere : Place
nowhere = record { id = 0; live = false; queue = record { kind = Scope; domain = 0; next = 0; slots = []; count = 0; selection = None; failed = false; issued = false; phase = Idle; bindings = []; bound = 0 } }

abbrev pub place_at : Groups → ℕ → Place
place_at g i = get_or g.places i nowhere

abbrev pub queue_at : Groups → ℕ → Queue
queue_at g i = (place_at g i).queue

-- R105: the id is 0 and the queue blank
abbrev pub free_place : Place
free_place = record { id = 0; live = false; queue = blank }

abbrev pub live_place : ℕ → Queue → Place
live_place id q = record { id = id; live = true; queue = q }

-- one place is another; the fifteen others stay
abbrev pub with_place : Groups → ℕ → Place → Groups
with_place g i p = record { base = g.base; next = g.next; sealed = g.sealed; places = set g.places i p }

-- the place with another queue
abbrev pub holding : Place → Queue → Place
holding p q = record { id = p.id; live = p.live; queue = q }

-- one place holds another queue; its id and mark and the fifteen other places stay
abbrev pub with_queue : Groups → ℕ → Queue → Groups
with_queue g i q = with_place g i (holding (place_at g i) q)

abbrev pub with_places : Groups → List Place → Groups
with_places g ps = record { base = g.base; next = g.next; sealed = g.sealed; places = ps }

abbrev pub with_next_id : Groups → ℕ → Groups
with_next_id g n = record { base = g.base; next = n; sealed = g.sealed; places = g.places }

-- R97: a group more in the place i: its id is next, which rises by 1, so that no id comes again
abbrev pub with_opened : Groups → ℕ → Queue → Groups
with_opened g i q = with_next_id (with_place g i (live_place g.next q)) (g.next + 1)

-- R99: an empty group record
unfoldable pub empty_of : ℕ → Groups
empty_of base = record { base = base; next = 0; sealed = false; places = replicate 16 free_place }

-- R112: sealed, with none live
unfoldable pub sealing : Groups → Groups
sealing g = record { base = g.base; next = g.next; sealed = true; places = replicate 16 free_place }

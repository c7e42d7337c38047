-- The sessions that a table of places stands for. Assumes nothing.
use Rattle.std.specs.Prelude.{List, [], map, ℕ, Option, eqb, position}
use Rattle.places.specs.Places.{firsts}
use Rattle.ledger.specs.Held.{holding_of}
use Rattle.ledger.specs.Sessions.{Session}
use Rattle.table.specs.declared.Place.{Place}
use Rattle.table.specs.declared.Table.{Table}

-- the session in a place: unused hop places are no part of it, and a number of hops above them shows in it
abbrev pub session_of : Place → Session
session_of p = record { number = p.number; route = firsts p.hops p.route 0; held = holding_of p.hops p.held }

-- what stands in no place of a table
abbrev pub no_place : Place
no_place = record { number = 0; hops = 0; route = []; held = record { frames = []; cycles = []; delay = record { 0 = 0 }; colours = [] } }

-- the sessions in the first n places
abbrev pub in_places : ℕ → List Place → List Session
in_places n places = map session_of (firsts n places no_place)

-- the live sessions of a table, in the order of set-up; a number of sessions above the places shows in it
abbrev pub live_of : Table → List Session
live_of t = in_places t.live t.places

-- the place of the session with a number, if some session has it
abbrev pub place_of : ℕ → List Session → Option ℕ
place_of n ss = position (λ s. eqb s.number n) ss

-- Words of the contracts of inner functions. They are no part of what is promised: the exported functions promise in the words of `specs/Exported`. Assumes nothing.
use Rattle.std.specs.Prelude.{List, ◌∷◌, ◌++◌, ℕ}
use Rattle.places.specs.Places.{firsts}
use Rattle.sessions.specs.declared.Shown.{Shown}

-- the numbers of what a lookup shows
abbrev pub place_numbers : Shown → List ℕ
place_numbers q = q.hops ∷ q.held.delay.0 ∷ (firsts q.hops q.route 0 ++ (firsts q.hops q.held.frames 0 ++ firsts q.hops q.held.cycles 0))

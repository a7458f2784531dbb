-- Rules. What the fields of a session in a book may hold. Fields that the outcome has not are missing, and zero bytes.
use Rattle.std.specs.Prelude.{ℕ, Bool, cond, ◌&&◌, ◌||◌, List, [], ◌∷◌, leb, eqb}
use Rattle.files.specs.BookSession.{plugged, charged}
use Rattle.files.specs.declared.book_session.BookSession.{BookSession}

-- a field that is present may hold any bits, and a missing one is zero
abbrev pub zero_unless : Bool → ℕ → Bool
zero_unless there x = there || eqb x 0

-- a connector that is present is 1–5
abbrev pub connector_ok : Bool → ℕ → Bool
connector_ok there code = cond there (leb 1 code && leb code 5) (eqb code 0)

-- outcome 0–3, fleet 0–64 (request 9); for 2 and 3 all is missing but ids of vehicle and profile, outcome, fleet, arrival, wait, start; for 0
-- unplug, charge duration, peak, energy
abbrev pub session_tests : BookSession → List Bool
session_tests x =
    let there = plugged x.outcome in
    let done = charged x.outcome in
    leb x.outcome 3
    ∷ leb x.fleet 64
    ∷ zero_unless there x.charger_id
    ∷ connector_ok there x.connector
    ∷ zero_unless there x.plugin
    ∷ zero_unless done x.unplug
    ∷ zero_unless done x.duration
    ∷ zero_unless there x.idle
    ∷ zero_unless done x.peak
    ∷ zero_unless done x.energy
    ∷ zero_unless there x.end
    ∷ []

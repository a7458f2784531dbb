-- `late_booking::late::first_time` meets its contract. Assumes nothing.
use Rattle.std.proofs.Common.{◌≡◌, List, [], ◌∷◌, Some, None, slice_get, refl}
use Rattle.engine.specs.declared.events.Event.{Event}
use Rattle.late_booking.specs.LateCar.{first_time}

some_first : (es : List Event) (e : Event) → slice_get es 0 ≡ Some e → e.time ≡ first_time es
some_first [] e h = absurd (cc)
some_first (x ∷ es) e h =
    let same : x ≡ e = cc in
    rw same

none_first : (es : List Event) → slice_get es 0 ≡ None → 0 ≡ first_time es
none_first [] h = refl
none_first (x ∷ es) h = absurd (cc)

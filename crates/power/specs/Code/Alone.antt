-- Refinement: one car alone at the site, whose round needs no pass over the other chargers.
use Rattle.std.specs.Prelude.{◌≡◌, Bool, true, false, min, ℕ}
use Rattle.curve.specs.F64.{ratio}
use Rattle.curve.specs.declared.units.Kw.{Kw}
use Rattle.power.specs.declared.charger_state.ChargerState.{ChargerState}
use Rattle.power.specs.declared.power.Limit.{Limit}
use Rattle.power.specs.declared.power.Limit.TheVariants.{Unlimited, AtMost, Shared}
use Rattle.power.specs.ChargerState.{is_charging, with_request, with_cap, progress}
use Rattle.power.specs.Power.{added, scaling, cap_of, watts_asked, cap_of_share}

-- whether one factor gives every cap: all but a limit that is shared evenly
abbrev pub by_factor : Limit → Bool
by_factor Unlimited = true
by_factor (AtMost limit) = true
by_factor (Shared watts) = false

-- the cap of a car that is alone: scaled by its own draw, or its whole watts as far as the limit goes
unfoldable pub scaled_alone : Limit → ChargerState → Kw
unfolding added scaling cap_of
scaled_alone limit s = cap_of (scaling limit (added (ratio 0 1) s)) s

unfoldable pub share_alone : ℕ → ChargerState → Kw
unfolding watts_asked cap_of_share
share_alone limit s = cap_of_share (min (watts_asked s) limit)

unfoldable pub cap_alone : Limit → ChargerState → Kw
unfolding scaled_alone share_alone
cap_alone Unlimited s = scaled_alone Unlimited s
cap_alone (AtMost limit) s = scaled_alone (AtMost limit) s
cap_alone (Shared limit) s = share_alone limit s

-- the round of a car that asks for `power`
abbrev pub round_alone : Limit → Kw → ChargerState → ChargerState
round_alone limit power s =
    let asked = with_request power s in
    progress (with_cap (cap_alone limit asked) asked)

-- if it charges, its cap is the one that its request leads to
abbrev pub CapMatchesRequest : Limit → ChargerState → Type 0
CapMatchesRequest limit s = is_charging s.status ≡ true → s.cap ≡ cap_alone limit s

-- `charge_profile::integrate_over` meets its contract. The loop's invariant: charging on from p, with the points left to come, gives what is asked.
use Rattle.std.proofs.Common.{◌≡◌, drop}
use Rattle.curve.specs.Code.Places.{walk}
use Rattle.curve.specs.Curve.{along, integrate_over}
use Rattle.curve.proofs.charge_profile.integrate_over.Given as goal

abbrev pub invariant-loop-q : goal.invariant-loop-q
invariant-loop-q l =
    (l.w ≡ walk l.curve l.w.charge)
    × ((along l.curve l.battery l.target l.cap l.p (drop l.q-index l.q-items) l.w.charge).output ≡ integrate_over l.curve l.battery l.start l.target l.cap)

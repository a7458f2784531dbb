use Rattle.charger.specs.Code.Profiles.{curve_in}
use Rattle.power.specs.Power.{added}
use Rattle.power.proofs.power.Passes.{Passing, asking}
use Rattle.power.proofs.power.request_power.Given as goal

abbrev pub invariant-loop-i : goal.invariant-loop-i
invariant-loop-i l =
    Passing (asking (curve_in l.rising.profiles)) added l.busy l.initial.sum l.initial.bank l.i-index l.sum l.bank

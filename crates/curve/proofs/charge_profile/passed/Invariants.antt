-- `charge_profile::passed` meets its contract. The loop's invariant: the points before i are passed.
use Rattle.curve.specs.Code.Places.{passed}
use Rattle.curve.proofs.points.ByPlace.{Upto}
use Rattle.curve.proofs.charge_profile.passed.Given as goal

abbrev pub invariant-loop-i : goal.invariant-loop-i
invariant-loop-i l = Upto (passed l.soc) l.curve l.i

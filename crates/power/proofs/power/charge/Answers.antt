use Rattle.power.proofs.power.Passes.{unshared_by_factor, both, both_shared}
use Rattle.power.proofs.power.Gaps.{cars_requested}
use Rattle.power.proofs.power.Parked.{parked_draw-nothing}
use Rattle.power.proofs.even_shares.Evenly.{shared_evenly}
use Rattle.power.proofs.power.charge.Goals as goal

pub advance_evenly-requires-clause-cars : goal.advance_evenly-requires-clause-cars
advance_evenly-requires-clause-cars c = rw c.request_power-sum.ensures.asked (cars_requested _ _ c.requires.cars)

pub advance-requires : goal.advance-requires
advance-requires c = record { cars = rw c.request_power-sum.ensures.asked (cars_requested _ _ c.requires.cars) }

pub returns-in-Shared-clause-moved : goal.returns-in-Shared-clause-moved
returns-in-Shared-clause-moved c = rw c.in-Shared.is (both_shared _ _ _ c.request_power-sum.ensures.asked c.advance_evenly.ensures.moved)

pub returns-in-Shared-clause-even : goal.returns-in-Shared-clause-even
returns-in-Shared-clause-even c = rw (returns-in-Shared-clause-moved c) (shared_evenly _ _ _)

pub returns-in-Shared-clause-parked : goal.returns-in-Shared-clause-parked
returns-in-Shared-clause-parked c = rw (returns-in-Shared-clause-moved c) (parked_draw-nothing _ _ _)

pub returns-in_default : goal.returns-in_default
returns-in_default c =
    let moved = both _ _ _ (unshared_by_factor _ c.in_default.not-Shared) c.request_power-sum.ensures.asked c.request_power-sum.ensures.summed c.scaling.ensures c.advance.ensures.moved in
    record {
      moved = moved;
      any = c.advance.ensures.any;
      even = rw moved (shared_evenly _ _ _);
      parked = rw moved (parked_draw-nothing _ _ _);
    }

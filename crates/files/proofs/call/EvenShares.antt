-- Request 10 of the call `run`: where byte 12 of the header is 2, the rounds of the plan's run share its limit evenly. Assumes nothing.
use mathlib.Core.Path.{◌≡◌}
use mathlib.Core.List.{List}
use Prim.Native.Nat.{ℕ}
use Rattle.shares.specs.Watts.{watts_of}
use Rattle.engine.specs.EvenShares.{EvenRounds}
use Rattle.engine.proofs.site.NoLimit.{even_rounds}
use Rattle.power.specs.declared.power.Limit.TheVariants.{Shared}
use Rattle.plan.specs.Bytes.{le_at}
use Rattle.plan.specs.Fields.{f64_at}
use Rattle.files.specs.Read.{limit_of, read_plan}

shared_read : (plan : List ℕ) → le_at 1 plan 12 ≡ 2 → limit_of plan ≡ Shared (watts_of (f64_at plan 16))
unfolding limit_of
shared_read plan e = rw e

pub evenly : (plan : List ℕ) → le_at 1 plan 12 ≡ 2 → EvenRounds (read_plan plan) (watts_of (f64_at plan 16))
evenly plan e = even_rounds (read_plan plan) (watts_of (f64_at plan 16)) (shared_read plan e)

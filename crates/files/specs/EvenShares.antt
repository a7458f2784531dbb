-- Rules. Request 10, even shares of the limit, as the calls promise it: by the bytes of the plan's header.
use Rattle.std.specs.Prelude.{◌≡◌, List, ℕ, Result}
use Rattle.shares.specs.Watts.{watts_of}
use Rattle.engine.specs.EvenShares.{EvenRounds, NoLimit}
use Rattle.plan.specs.Bytes.{le_at}
use Rattle.plan.specs.Fields.{f64_at}
use Rattle.plan.specs.declared.answer.Totals.{Totals}
use Rattle.plan.specs.declared.answer.Refusal.{Refusal}
use Rattle.files.specs.Read.{read_plan}
use Rattle.files.specs.Demand.{OfRun}

module _ (plan : List ℕ) (engine : ℕ) where
  -- by steps, where byte 12 is 2, every round shares the limit of bytes 16–23 evenly among the cars that charge
  abbrev pub SharedEvenly : Result Totals Refusal → Type 0
  SharedEvenly = OfRun (λ t. engine ≡ 1 → le_at 1 plan 12 ≡ 2 → EvenRounds (read_plan plan) (watts_of (f64_at plan 16)))

  -- by events the limit does nothing, in either mode
  abbrev pub LimitIgnored : Result Totals Refusal → Type 0
  LimitIgnored = OfRun (λ t. engine ≡ 0 → NoLimit (read_plan plan))

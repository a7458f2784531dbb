use Rattle.std.proofs.Common.{◌≡◌, ℕ, List, get_or, ◌+◌, ◌-◌, ◌^◌, ◌<◌, ◌≤◌, arith}
use native.Mathlib.Nat.{sub_self}
use Rattle.plan.specs.Bytes.{le_at}
use Rattle.plan.proofs.bytes.Laws.{get_step, le_at-below}
use Rattle.plan.proofs.bytes.get.Goals as goal

-- before its last byte a number is below 256 ^ 7
below : (s : List ℕ) (at n i v : ℕ) → ((k : ℕ) → get_or s k 0 < 256) → n - i ≤ 7 → v ≡ le_at (n - i) s (at + i) → v < 256 ^ 7
below s at n i v fits h e = rw e (le_at-below 7 _ s _ fits h)

pub loop-i-init : goal.loop-i-init
unfolding le_at
loop-i-init c = rw sub_self

pub overflow_mul-v : goal.overflow_mul-v
overflow_mul-v c = omega (arith, below c.args.s.now c.args.at c.args.n c.loop-i.i c.loop-i.v (λ k. (c.type_inv.s k).fits) (omega arith) c.loop-i.invariant)

pub overflow_add-v : goal.overflow_add-v
overflow_add-v c =
    omega (arith, below c.args.s.now c.args.at c.args.n c.loop-i.i c.loop-i.v (λ k. (c.type_inv.s k).fits) (omega arith) c.loop-i.invariant, (c.type_inv.s (c.args.at + (c.loop-i.i - 1))).fits)

pub loop-i-preserved : goal.loop-i-preserved
loop-i-preserved c =
    get_step c.args.s.now c.args.at c.args.n _ _ c.loop-i.i (omega arith) (omega arith) c.loop-i.invariant c.from.ensures

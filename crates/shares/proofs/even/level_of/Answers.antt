use Rattle.std.proofs.Common.{◌≡◌, ℕ, ◌-◌, ◌/◌, ◌<◌, ◌≤◌, List, sym, ◌∙◌, div-le_self, arith}
use Rattle.shares.specs.Shares.{level, left_over}
use Rattle.shares.specs.Code.Parted as Parted
use Rattle.shares.proofs.even.Levels.{next, step, found, found_left, level_is, level_one, cut-nothing}
use Rattle.shares.proofs.even.level_of.Goals as goal

-- the next level, by what `part` found
raised : (rs : List ℕ) (limit l : ℕ) {u o : ℕ} → u ≡ Parted.under l rs → o ≡ Parted.above l rs → next rs limit l ≡ (limit - u) / o
raised rs limit l a b = rw (a, b)

below : (rs : List ℕ) (limit l : ℕ) → next rs limit l ≤ limit
below rs limit l = omega (arith, div-le_self (limit - Parted.under l rs) (Parted.above l rs))

falls : (limit l m : ℕ) → l ≤ m → (m ≡ l → ⊥) → m ≤ limit → limit - m < limit - l
falls limit l m a b c = omega arith

pub loop-level-init : goal.loop-level-init
loop-level-init c = omega (arith, cut-nothing c.args.requests.now)

pub part-s-requires : goal.part-s-requires
part-s-requires c =
    omega (arith, (step c.args.requests.now c.args.limit c.loop-level.level c.requires c.loop-level.invariant).fits)

pub overflow_sub-rest : goal.overflow_sub-rest
overflow_sub-rest c =
    let s = step c.args.requests.now c.args.limit c.loop-level.level c.requires c.loop-level.invariant in
    omega (arith, s.fits, c.part-s.ensures.under)

pub nonzero_div-next : goal.nonzero_div-next
nonzero_div-next c =
    let s = step c.args.requests.now c.args.limit c.loop-level.level c.requires c.loop-level.invariant in
    omega (arith, s.some, c.part-s.ensures.above)

pub nonzero_rem-result : goal.nonzero_rem-result
nonzero_rem-result c =
    let s = step c.args.requests.now c.args.limit c.loop-level.level c.requires c.loop-level.invariant in
    omega (arith, s.some, c.part-s.ensures.above)

pub returns-then-next-level : goal.returns-then-next-level
unfolding left_over
returns-then-next-level c =
    let s = step c.args.requests.now c.args.limit c.loop-level.level c.requires c.loop-level.invariant in
    let same : next c.args.requests.now c.args.limit c.loop-level.level ≡ c.loop-level.level = raised c.args.requests.now c.args.limit c.loop-level.level c.part-s.ensures.under c.part-s.ensures.above ∙ c.if-next-level.true in
    let is : c.loop-level.level ≡ level c.args.requests.now c.args.limit = level_one c.args.requests.now c.args.limit c.loop-level.level (level c.args.requests.now c.args.limit) (found c.args.requests.now c.args.limit c.loop-level.level s same) (level_is c.args.requests.now c.args.limit c.requires) in
    record { level = is; left = rw (c.part-s.ensures.under, c.part-s.ensures.above, ← is) (found_left c.args.requests.now c.args.limit c.loop-level.level s same) }

pub loop-level-smaller : goal.loop-level-smaller
loop-level-smaller c =
    let s = step c.args.requests.now c.args.limit c.loop-level.level c.requires c.loop-level.invariant in
    let is = raised c.args.requests.now c.args.limit c.loop-level.level c.part-s.ensures.under c.part-s.ensures.above in
    let more : next c.args.requests.now c.args.limit c.loop-level.level ≡ c.loop-level.level → ⊥ = λ h. c.if-next-level.false (sym is ∙ h) in
    rw (← is) (falls c.args.limit c.loop-level.level (next c.args.requests.now c.args.limit c.loop-level.level) s.rises more (below c.args.requests.now c.args.limit c.loop-level.level))

pub loop-level-preserved : goal.loop-level-preserved
loop-level-preserved c =
    let s = step c.args.requests.now c.args.limit c.loop-level.level c.requires c.loop-level.invariant in
    rw (← raised c.args.requests.now c.args.limit c.loop-level.level c.part-s.ensures.under c.part-s.ensures.above) s.within

-- Laws of draws. Assumes nothing.
use Rattle.std.proofs.Common.{◌≡◌, ℕ, zero, suc, ◌+◌, add-zero, add-suc}
use Rattle.practice.specs.Xorshift.{draw}

-- draws go on from a draw
pub draw_add : (seed n m : ℕ) → draw (draw seed n) m ≡ draw seed (n + m)
unfolding draw
draw_add seed n zero = rw add-zero
draw_add seed n (suc m) = rw (add-suc, draw_add seed n m)

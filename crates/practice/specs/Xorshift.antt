-- Rules. Request 11's generator: Marsaglia's 32-bit xorshift with left 13, right 17 and left 5, and its draws.
use Rattle.std.specs.Prelude.{ℕ, zero, suc, ◌*◌, ◌/◌, ◌%◌, ◌^◌}
use Rattle.std.specs.Int.Bits.{bit_xor}

-- 32 bits moved n places; what is moved out is lost
abbrev pub left : ℕ → ℕ → ℕ
left x n = x * 2 ^ n % 2 ^ 32

abbrev pub right : ℕ → ℕ → ℕ
right x n = x / 2 ^ n

-- one step of the state
unfoldable pub step : ℕ → ℕ
step x =
    let a : ℕ = bit_xor x (left x 13) in
    let b : ℕ = bit_xor a (right a 17) in
    bit_xor b (left b 5)

-- the n-th draw is the state after n steps; the seed is the state before the first
unfoldable pub draw : ℕ → ℕ → ℕ
draw seed zero = seed
draw seed (suc n) = step (draw seed n)

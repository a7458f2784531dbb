-- The quotient of two whole numbers: the f64 nearest to their fraction, so that it is rounded once.
use Rattle.std.proofs.Common.{◌≡◌, ℕ, ◌*◌, ◌^◌, ◌<◌, ◌≤◌, true, false, eqb, pos, sym, ◌∙◌, true≢false, mul_assoc, mul_comm, mul_left_comm, mul-one, mul-pos, arith, ne_eqb}
use lib.Ieee.{Float, nan, inf, fin, binary64, up, down, of_int, div}
use lib.Ieee.Exact.{HasValue}
use lib.Ieee.Fits.{down_pos}
use lib.Ieee.Back.{round_whole}
use lib.Ieee.Positive.{first_pos}
use lib.Ieee.Scale.{round_same}
use Rattle.curve.specs.F64.{◌⊘◌, ratio}

-- of M = a * d and N = b * c
crossed : (M N a b c d : ℕ) → M ≡ a * d → N ≡ b * c → M * c * b ≡ a * (N * d)
crossed M N a b c d p q = rw (p, q) (simp (mul_assoc, mul_comm, mul_left_comm))

quotient : (x y : Float) (a b : ℕ) → 0 < b → HasValue x false a 1 → HasValue y false b 1 → x ⊘ y ≡ ratio a b
unfolding div ratio
quotient nan y a b h v w = absurd v
quotient (inf s) y a b h v w = absurd v
quotient (fin true m e) y a b h v w = absurd (true≢false v.0)
quotient (fin false m e) nan a b h v w = absurd w
quotient (fin false m e) (inf s) a b h v w = absurd w
quotient (fin false m e) (fin true n d) a b h v w = absurd (true≢false w.0)
quotient (fin false m e) (fin false n d) a b h v w =
    let M = sym (mul-one (m * up e)) ∙ v.1 in
    let N = sym (mul-one (n * up d)) ∙ w.1 in
    let above : 0 < n * up d = rw N (mul-pos h (down_pos d)) in
    let some : eqb n 0 ≡ false = ne_eqb n 0 (λ z. absurd (omega (arith, z, first_pos n (up d) above))) in
    rw some
    (round_same binary64 false (m * up e * down d) (n * up d * down e) a b (mul-pos above (down_pos e)) h (crossed (m * up e) (n * up d) a b (down d) (down e) M N))

pub whole_quotient : (a b : ℕ) → a ≤ 2 ^ 53 → 0 < b → b ≤ 2 ^ 53 → of_int binary64 (pos a) ⊘ ratio b 1 ≡ ratio a b
unfolding of_int ratio
whole_quotient a b h k l = quotient (of_int binary64 (pos a)) (ratio b 1) a b k (round_whole binary64 false a h) (round_whole binary64 false b l)

-- The fields of a car are within their limits. Assumes nothing.
use Rattle.std.proofs.Common.{◌≡◌, ℕ, ◌+◌, ◌^◌, ◌<◌, ◌≤◌, true, false, ◌&&◌, leb, List, length, get_or, sym, subst, arith, le-leb, leb-true}
use lib.Ieee.{binary64, to_bits, of_bits}
use lib.Ieee.Bits.{of_bits-to_bits, to_bits-lt}
use lib.Ieee.Fits.{round-fits}
use lib.Ieee.Order.{round_mono}
use Rattle.curve.specs.F64.{ratio, in_range}
use Rattle.curve.specs.Limits.{Within}
use Rattle.curve.proofs.float.Clear.{round-clear}
use Rattle.curve.proofs.float.Limits.{to_bits_lem}
use Rattle.charger.proofs.Lists.{and_true}
use Rattle.plan.specs.Bytes.{le_at}
use Rattle.plan.specs.Search.{holds}
use Rattle.plan.specs.Fields.{bytes_in, zeros, connectors_ok, vehicle_tests}
use Rattle.plan.proofs.bytes.Laws.{le_at-same}
use Rattle.plan.proofs.fields.Laws.{bytes_in-same}
use Rattle.practice.specs.Promises.{Same}
use Rattle.practice.proofs.practice_plan.CarBytes.{car, start_in, target_in, arrival_in, profile_same, idle_same, rest_same}

-- ---- what is drawn is within the limits

-- a fraction up to 1, as an f64: what its bits stand for
pub bits_back : (a b : ℕ) → of_bits binary64 (to_bits binary64 (ratio a b)) ≡ ratio a b
unfolding ratio
bits_back a b = of_bits-to_bits binary64 (ratio a b) (round-fits binary64 false a b)

pub bits_fit : (a b : ℕ) → to_bits binary64 (ratio a b) < 256 ^ 8
unfolding ratio
bits_fit a b = to_bits-lt binary64 (ratio a b) (round-fits binary64 false a b)

part_within : (m : ℕ) → m ≤ 1024 → Within (ratio 0 1) (ratio 1 1) (ratio m 1024)
unfolding ratio
part_within m h =
    record {
      fits = round-fits binary64 false m 1024;
      clear = round-clear binary64 m 1024;
      low = round_mono binary64 0 1 m 1024 (omega arith) (omega arith) (omega arith);
      high = round_mono binary64 m 1024 1 1 (omega arith) (omega arith) (omega arith);
    }

part_in_range : (m : ℕ) → m ≤ 1024 → in_range (to_bits binary64 (ratio m 1024)) (ratio 0 1) (ratio 1 1) ≡ true
part_in_range m h = to_bits_lem _ _ _ (subst (Within (ratio 0 1) (ratio 1 1)) (sym (bits_back m 1024)) (part_within m h))

-- ---- 7: a car's fields

-- connectors: the count and the codes lie within the bytes that are the same
connectors_same : (b c : List ℕ) → Same b c 4 16 → connectors_ok c 8 16 ≡ true → connectors_ok b 8 16 ≡ true
unfolding connectors_ok
connectors_same b c same h =
    let n : ℕ = le_at 1 c 8 in
    let two = and_true (leb n 5 && bytes_in c 9 (9 + n) 1 5) (zeros c (9 + n) 16) h in
    let few : n ≤ 5 = leb-true n 5 (and_true (leb n 5) (bytes_in c 9 (9 + n) 1 5) two.0).0 in
    let count : le_at 1 b 8 ≡ n = le_at-same 1 b c 8 (λ k l m. same k (omega arith) (omega arith)) in
    let codes = bytes_in-same b c 9 (9 + n) 1 5 (λ k l m. same k (omega arith) (omega arith)) in
    let rest = bytes_in-same b c (9 + n) 16 0 0 (λ k l m. same k (omega arith) m) in
    rw (count, codes, rest) h

module _ (vehicle : List ℕ) (long : length vehicle ≡ 512) (tests : (i : ℕ) → get_or (vehicle_tests vehicle) i true ≡ true) (place id m n arrival : ℕ) (from : m ≤ 1024)
    (to : n ≤ 1024) (when : arrival ≤ 1000000) where
  abbrev b : List ℕ
  b = car vehicle long place id (ratio m 1024) (ratio n 1024) arrival

  pub fields_hold : holds (vehicle_tests b) ≡ true
  fields_hold =
      let start = start_in vehicle long place id (ratio m 1024) (ratio n 1024) arrival (bits_fit m 1024) in
      let target = target_in vehicle long place id (ratio m 1024) (ratio n 1024) arrival (bits_fit n 1024) in
      let arrives = arrival_in vehicle long place id (ratio m 1024) (ratio n 1024) arrival (omega arith) in
      let own = profile_same vehicle long place id (ratio m 1024) (ratio n 1024) arrival in
      let parked = idle_same vehicle long place id (ratio m 1024) (ratio n 1024) arrival in
      let rest = rest_same vehicle long place id (ratio m 1024) (ratio n 1024) arrival in
      let idle = le_at-same 8 b vehicle 32 (λ k l h. parked k l (omega arith)) in
      let wait = le_at-same 8 b vehicle 48 (λ k l h. rest k l (omega arith)) in
      let fleet = le_at-same 2 b vehicle 60 (λ k l h. rest k (omega arith) (omega arith)) in
      let unused = bytes_in-same b vehicle 62 508 0 0 (λ k l h. rest k (omega arith) h) in
      rw (start, target, arrives, idle, wait, fleet, unused, connectors_same b vehicle own (tests 0), part_in_range m from, part_in_range n to, le-leb arrival 1000000 when, tests 3, tests 5, tests 6, tests 7)

-- What a row says, and what a count of 0 means.
use mathlib.Core.Path.{◌≡◌, refl}
use mathlib.Core.Bool.{false, ◌&&◌}
use mathlib.Core.List.{List}
use Prim.Native.Nat.{ℕ, zero, suc, ◌-◌, ◌<◌}
use native.Mathlib.Omega.{arith}
use borrow.Author.Tests.{le-leb, lt-leb}
use lib.Dec.{leb}
use lib.ListN.{take, get_or-eq_default}
use Rattle.charger.specs.Connector.{has_code, contains, row_of, codes_of, named_connectors}

row_past : (ks : List ℕ) (k : ℕ) → 5 < k → has_code (row_of ks) k ≡ (leb 1 k && (leb k 5 && contains ks k))
row_past ks k h = rw (le-leb 1 k (omega arith), lt-leb k 5 h, get_or-eq_default (row_of ks) false {n = k - 1} (omega arith))

-- a row has a code exactly if the code is from 1 to 5 and among those that the row was made of
pub row_has : (ks : List ℕ) (k : ℕ) → has_code (row_of ks) k ≡ (leb 1 k && (leb k 5 && contains ks k))
row_has ks zero = refl
row_has ks (suc zero) = refl
row_has ks (suc (suc zero)) = refl
row_has ks (suc (suc (suc zero))) = refl
row_has ks (suc (suc (suc (suc zero)))) = refl
row_has ks (suc (suc (suc (suc (suc zero))))) = refl
row_has ks (suc (suc (suc (suc (suc (suc k)))))) = row_past ks (suc (suc (suc (suc (suc (suc k)))))) (omega arith)

-- a vehicle's connectors are the codes of its block
pub connectors_listed : (n : ℕ) (codes : List ℕ) → take (named_connectors n codes).count (named_connectors n codes).codes ≡ codes_of n codes
connectors_listed zero codes = refl
connectors_listed (suc n) codes = refl

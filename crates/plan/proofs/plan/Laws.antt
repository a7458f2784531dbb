-- Laws of the kinds of a plan's blocks and of the table of refusals. Assumes nothing.
use Rattle.std.proofs.Common.{◌≡◌, ℕ, zero, suc, ◌+◌, ◌*◌, ◌<◌, ◌≤◌, Bool, true, false, cond, not, Some, None, Result, Ok, Err, List, [], ◌∷◌, ltb, length, get_or, take, drop, sym, refl, ◌∙◌, inl, inr, zero-add, add-one, length-take-le, get_or-take, arith, eqb, eq-eqb, ne_eqb, eq-or-lt_of_le, drop-cons, le-ltb, lt-ltb, le-leb}
use lib.Dec.{eqb-suc-zero}
use lib.Ieee.{Float, nan}
use Rattle.plan.specs.Bytes.{le_at}
use Rattle.plan.specs.Search.{first_index, short_of, every, each}
use Rattle.plan.specs.Fields.{f64_at}
use Rattle.plan.specs.Code.Socs.{new_among}
use Rattle.plan.specs.Plan.{new_soc, broken, first_refusal}
use Rattle.plan.specs.Places.{kind_at, is_vehicle}
use Rattle.plan.specs.declared.places.Kind.{Kind}
use Rattle.plan.specs.declared.places.Kind.TheVariants.{Header, Profile, Charger, Vehicle}
use Rattle.plan.specs.contracts.places.Kind.{the_type}
use denote.Enum.Bare.{sameb}
use Rattle.std.specs.Option.{is_some}
use Rattle.plan.specs.declared.answer.Rule.{Rule}
use Rattle.plan.specs.declared.answer.Rule.TheVariants.{Length}
use Rattle.plan.specs.declared.answer.Refusal.{Refusal}
use Rattle.plan.specs.declared.answer.Refusal.TheVariants.{Broken}
use Rattle.plan.proofs.SearchLaws.{every_same, each_at, first_end}

-- the vehicles come after the profiles
pub no_vehicle_lem : (plan : List ℕ) (k : ℕ) → k < 1 + le_at 2 plan 4 → is_vehicle (kind_at plan k) ≡ false
unfolding kind_at
no_vehicle_lem plan zero h = refl
no_vehicle_lem plan (suc k) h = rw (eqb-suc-zero k, le-leb (suc k) (le_at 2 plan 4) (omega arith))

-- the SOC of the j-th point of a profile's block
abbrev pub soc_at : List ℕ → ℕ → Float
soc_at b j = f64_at b (16 + 16 * j)

-- of the SOCs that are read, the i-th is new where the i-th point's is
new_read : (b : List ℕ) (socs : List Float) (i : ℕ) → socs ≡ each (soc_at b) 0 (length socs) → i < length socs
    → new_among (take i socs) (get_or socs i nan) ≡ new_soc b i
unfolding new_among new_soc
new_read b socs i e h =
    let read : (j : ℕ) → j < length socs → get_or socs j nan ≡ soc_at b j = λ j l. rw e (each_at (soc_at b) 0 (length socs) j nan l ∙ rw zero-add) in
    let long : length (take i socs) ≡ i = length-take-le i socs (omega arith) in
    rw long
    (every_same _ _ 0 i (λ j a l. rw (get_or-take i socs j nan (omega arith), read j (omega arith), read i h)))

pub all_read : (b : List ℕ) (socs : List Float) (n : ℕ) → length socs ≡ n → socs ≡ each (soc_at b) 0 n
    → every (λ i. new_among (take i socs) (get_or socs i nan)) 0 n ≡ every (new_soc b) 0 n
all_read b socs n long e = every_same _ _ 0 n (λ i a l. new_read b socs i (rw long e) (omega arith))

-- the test of a block's kind
pub vehicle_test : (k : Kind) → sameb the_type k Vehicle ≡ is_vehicle k
vehicle_test Header = refl
vehicle_test Profile = refl
vehicle_test Charger = refl
vehicle_test Vehicle = refl

-- an index that is not short of the end is the end
pub none_test : (k end : ℕ) (none : Bool) → k ≤ end → is_some (short_of k end) ≡ not none → none ≡ eqb k end
none_test k end none h e = elim (eq-or-lt_of_le h) [
  | inl p ↦ at_end none (rw (le-ltb k end (omega arith)) at e) ∙ sym (eq-eqb k end p)
  | inr q ↦ before none (rw (lt-ltb k end q) at e) ∙ sym (ne_eqb k end (λ p. absurd (omega arith)))
]
  where
    at_end : (b : Bool) → false ≡ not b → b ≡ true
    at_end true e = refl
    at_end false e = e

    before : (b : Bool) → true ≡ not b → b ≡ false
    before true e = e
    before false e = refl

-- a rule that is tested: its first block is k, or there is none
module _ (rs : List Rule) (plan : List ℕ) (n i : ℕ) (r : Rule) (h : i < length rs) (p : r ≡ get_or rs i Length) where
  hit : (b : Bool) (w k : ℕ) (next : Result (Unit {0}) Refusal) → cond b (Some w) None ≡ Some k → cond b (Err (Broken r (w + 1))) next ≡ Err (Broken r (k + 1))
  hit true w k next e = cc
  hit false w k next e = cc

  miss : (b : Bool) (w : ℕ) (next : Result (Unit {0}) Refusal) → cond b (Some w) None ≡ None → cond b (Err (Broken r (w + 1))) next ≡ next
  miss true w next e = cc
  miss false w next e = refl

  pub refusal_hit : (k : ℕ) → short_of (first_index (broken r plan) 0 n) n ≡ Some k → first_refusal (drop i rs) plan n ≡ Err (Broken r (k + 1))
  unfolding first_refusal
  refusal_hit k e = rw (drop-cons rs i Length h, ← p) (hit _ _ k _ e)

  pub refusal_miss : short_of (first_index (broken r plan) 0 n) n ≡ None → first_refusal (drop i rs) plan n ≡ first_refusal (drop (i + 1) rs) plan n
  unfolding first_refusal
  refusal_miss e = rw (drop-cons rs i Length h, ← p, add-one i) (miss _ _ _ e)

-- no rule refuses one of the n blocks: the table has no refusal
pub none_refused : (rs : List Rule) (plan : List ℕ) (n : ℕ) → ((r : Rule) (k : ℕ) → k < n → broken r plan k ≡ false) → first_refusal rs plan n ≡ Ok tt
unfolding first_refusal
none_refused [] plan n h = refl
none_refused (r ∷ rs) plan n h =
    let past : ltb (first_index (broken r plan) 0 n) n ≡ false = le-ltb _ n (omega (arith, first_end (broken r plan) 0 n (λ k a b. h r k (omega arith)))) in
    rw past (none_refused rs plan n h)

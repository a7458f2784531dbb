-- Of a practice plan, checks 4 to 11 pass: whatever the plan that is fine and has one vehicle, the seed, and the count from 1 to 64. Assumes nothing.
use Rattle.std.proofs.Common.{◌≡◌, ℕ, zero, suc, ◌+◌, ◌-◌, ◌*◌, ◌/◌, ◌%◌, ◌<◌, ◌≤◌, Bool, true, false, not, ltb, Ok, List, length, get_or, drop, sym, refl, ap, ◌∙◌, add-zero, zero-add, arith, le-leb, le-ltb, ltb-true, ltb-false, ne_eqb, eq-eqb, get_or-take, get_or-drop}
use borrow.Author.Tests.{not-false}
use Rattle.curve.specs.F64.{ratio}
use Rattle.plan.specs.Bytes.{le_at}
use Rattle.plan.specs.Blocks.{passes, block}
use Rattle.plan.specs.Header.{counting, header_counting}
use Rattle.plan.specs.Search.{holds}
use Rattle.plan.specs.Fields.{letters_ok, header_tests, vehicle_tests}
use Rattle.plan.specs.Places.{profile_count, charger_count, vehicle_count, kind_at, start_of, vehicle_block}
use Rattle.plan.specs.Plan.{id_at, with_id, count_tests, broken, rules, check_blocks}
use Rattle.plan.specs.declared.answer.Rule.{Rule}
use Rattle.plan.specs.declared.answer.Rule.TheVariants.{Length, Check, Header, Field, NoPoint, EqualSoc, UsedId, NoProfile}
use Rattle.plan.specs.declared.places.Kind.{Kind}
use Rattle.plan.specs.declared.places.Kind.TheVariants.{Header as HeaderBlock, Profile, Charger, Vehicle}
use Rattle.plan.proofs.bytes.Laws.{le_at-same}
use Rattle.plan.proofs.blocks.Laws.{sealed-passes, blocks_whole, block_read}
use Rattle.plan.proofs.fields.Laws.{bytes_in-same}
use Rattle.plan.proofs.header.Laws.{length-counting}
use Rattle.plan.proofs.plan.Laws.{none_refused}
use Rattle.plan.proofs.SearchLaws.{holds_at, first_same, first_end}
use Rattle.files.specs.Code.Reading.{Counted}
use Rattle.files.proofs.Accepted.{rule, counted, kind_vehicle, vehicle_tests_lem}
use Rattle.practice.specs.Xorshift.{draw}
use Rattle.practice.specs.PracticePlan.{car_block}
use Rattle.practice.proofs.practice_plan.Stored.{length-car}
use Rattle.practice.proofs.practice_plan.CarBytes.{id_in, profile_same}
use Rattle.practice.proofs.practice_plan.Fields.{fields_hold}
use Rattle.practice.proofs.practice_plan.PlanBytes.{made, first, long, length_vehicle, length_made, same_profiles, same_chargers, counts_cars, same_letters, same_header, first_block, same_block, car_there}

module _ (plan : List ℕ) (fine : check_blocks plan ≡ Ok tt) (one : vehicle_count plan ≡ 1) (seed count : ℕ) (some : 1 ≤ count) (few : count ≤ 64) where
  abbrev pub c : Counted plan
  c = counted plan fine

  abbrev pub m : List ℕ
  m = made plan c one seed count

  abbrev f : ℕ
  f = first plan c one seed count

  abbrev n : ℕ
  n = f + count

  profiles : profile_count m ≡ profile_count plan
  profiles = same_profiles plan c one seed count

  chargers : charger_count m ≡ charger_count plan
  chargers = same_chargers plan c one seed count

  blocks : length plan / 512 ≡ f + 1
  blocks = omega (arith, long plan c one seed count)

  length_m : length m ≡ 512 * n
  length_m = length_made plan c one seed count

  -- ---- kinds and ids

  same_kind : (k : ℕ) → kind_at m k ≡ kind_at plan k
  unfolding kind_at
  same_kind k = rw (profiles, chargers)

  same_start : (k : Kind) → start_of m k ≡ start_of plan k
  same_start HeaderBlock = refl
  same_start Profile = refl
  same_start Charger = rw profiles
  same_start Vehicle = rw (profiles, chargers)

  same_id : (j : ℕ) → j < f → id_at m j ≡ id_at plan j
  unfolding id_at
  same_id zero h = le_at-same 4 m plan 0 (λ k a b. same_letters plan c one seed count k a (omega arith))
  same_id (suc j) h =
      rw add-zero at (sym (block_read 4 m (suc j) 0 (omega arith)) ∙ ap (λ (l : List ℕ). le_at 4 l 0) (same_block plan c one seed count (suc j) (omega arith) h) ∙ block_read 4 plan (suc j) 0 (omega arith))

  same_search : (from to id : ℕ) → to ≤ f → with_id m from to id ≡ with_id plan from to id
  unfolding with_id
  same_search from to id h = first_same _ _ from (to - from) (λ j a b. rw (same_id j (omega arith)))

  -- ---- the plan's own blocks: a rule says of them what it says in the plan

  same_broken : (r : Rule) (k : ℕ) → 1 ≤ k → k < f → broken r m k ≡ broken r plan k
  same_broken Length k a b = refl
  same_broken Check k a b = rw (same_block plan c one seed count k a b)
  same_broken Header k a b = rw (ne_eqb k 0 (λ e. absurd (omega arith)))
  same_broken Field k a b = rw (same_kind k, same_block plan c one seed count k a b)
  same_broken NoPoint k a b = rw (same_kind k, same_block plan c one seed count k a b)
  same_broken EqualSoc k a b = rw (same_kind k, same_block plan c one seed count k a b)
  same_broken UsedId k a b = rw (same_kind k, same_start (kind_at plan k), same_id k b, same_search (start_of plan (kind_at plan k)) k (id_at plan k) (omega arith))
  same_broken NoProfile k a b =
      rw (same_kind k, same_block plan c one seed count k a b, profiles, same_search 1 (1 + profile_count plan) (le_at 4 (block plan k) 4) (omega arith))

  own_passes : (r : Rule) (k : ℕ) → k < length plan / 512 → broken r plan k ≡ false
  own_passes Length k h = refl
  own_passes Check k h = rule plan fine 0 (omega arith) k h
  own_passes Header k h = rule plan fine 1 (omega arith) k h
  own_passes Field k h = rule plan fine 2 (omega arith) k h
  own_passes NoPoint k h = rule plan fine 3 (omega arith) k h
  own_passes EqualSoc k h = rule plan fine 4 (omega arith) k h
  own_passes UsedId k h = rule plan fine 5 (omega arith) k h
  own_passes NoProfile k h = rule plan fine 6 (omega arith) k h

  -- ---- the header

  -- a byte of the first block
  in_header : (file : List ℕ) (k : ℕ) → k < 512 → get_or (block file 0) k 0 ≡ get_or file k 0
  unfolding block
  in_header file k h = get_or-take 512 (drop 0 file) k 0 h ∙ get_or-drop 0 file k 0 ∙ rw zero-add

  header_byte : (k : ℕ) → 10 ≤ k → k < 508 → get_or (block m 0) k 0 ≡ get_or (block plan 0) k 0
  header_byte k a b = in_header m k (omega arith) ∙ same_header plan c one seed count k a b ∙ sym (in_header plan k (omega arith))

  header_letter : (k : ℕ) → k < 8 → get_or (block m 0) k 0 ≡ get_or (block plan 0) k 0
  header_letter k h = in_header m k (omega arith) ∙ same_letters plan c one seed count k (omega arith) h ∙ sym (in_header plan k (omega arith))

  same_fields : header_tests (block m 0) ≡ header_tests (block plan 0)
  same_fields =
      let mode = le_at-same 1 (block m 0) (block plan 0) 12 (λ k a b. header_byte k (omega arith) (omega arith)) in
      let limit = le_at-same 8 (block m 0) (block plan 0) 16 (λ k a b. header_byte k (omega arith) (omega arith)) in
      let none = bytes_in-same (block m 0) (block plan 0) 16 24 0 0 (λ k a b. header_byte k (omega arith) (omega arith)) in
      let before = bytes_in-same (block m 0) (block plan 0) 10 12 0 0 (λ k a b. header_byte k a (omega arith)) in
      let behind = bytes_in-same (block m 0) (block plan 0) 13 16 0 0 (λ k a b. header_byte k (omega arith) (omega arith)) in
      let places = bytes_in-same (block m 0) (block plan 0) 24 88 0 64 (λ k a b. header_byte k (omega arith) (omega arith)) in
      let unused = bytes_in-same (block m 0) (block plan 0) 88 508 0 0 (λ k a b. header_byte k (omega arith) b) in
      rw (mode, limit, none, before, behind, places, unused)

  counts_hold : holds (count_tests (block m 0) (length m / 512)) ≡ true
  counts_hold =
      let test = holds_at (count_tests (block plan 0) (length plan / 512)) (not-false _ (own_passes Header 0 (omega (arith, blocks)))) in
      let p : profile_count (block m 0) ≡ profile_count plan = block_read 2 m 0 4 (omega arith) ∙ profiles in
      let q : charger_count (block m 0) ≡ charger_count plan = block_read 2 m 0 6 (omega arith) ∙ chargers in
      let v : vehicle_count (block m 0) ≡ count = block_read 2 m 0 8 (omega arith) ∙ counts_cars plan c one seed count few in
      let letters : letters_ok (block m 0) ≡ true = rw (header_letter 0 (omega arith), header_letter 1 (omega arith), header_letter 2 (omega arith), header_letter 3 (omega arith)) (test 0) in
      let all : 1 + profile_count plan + charger_count plan + count ≡ length m / 512 = omega (arith, length_m) in
      rw (letters, p, q, v, le-leb (profile_count plan) 16 c.profiles, le-leb (charger_count plan) 32 c.chargers, le-leb count 64 few, eq-eqb _ _ all)

  head : block m 0 ≡ header_counting count plan
  head = first_block plan c one seed count

  header_passes : (r : Rule) → broken r m 0 ≡ false
  unfolding kind_at header_counting
  header_passes Length = refl
  header_passes Check = rw (head, sealed-passes 1 (counting count plan) (length-counting count plan (omega (arith, long plan c one seed count))))
  header_passes Header = rw counts_hold
  header_passes Field = ap (λ (l : List Bool). not (holds l)) same_fields ∙ (own_passes Field 0 (omega (arith, blocks)))
  header_passes NoPoint = refl
  header_passes EqualSoc = refl
  header_passes UsedId = le-ltb _ 0 (omega arith)
  header_passes NoProfile = refl

  -- ---- the cars

  id_of : (i : ℕ) → i < count → id_at m (f + i) ≡ i + 1
  unfolding id_at car_block
  id_of i h =
      rw add-zero at
      (sym (block_read 4 m (f + i) 0 (omega arith)) ∙ ap (λ (l : List ℕ). le_at 4 l 0) (car_there plan c one seed count i h)
      ∙ id_in (vehicle_block plan 0) (length_vehicle plan c one seed count) (f + 1 + i) (i + 1) _ _ _ (omega arith))

  -- no car before it has its id
  new_id : (i : ℕ) → i < count → with_id m f (f + i) (id_at m (f + i)) ≡ f + i
  unfolding with_id
  new_id i h =
      let e : f + (f + i - f) ≡ f + i = omega arith in
      first_end _ f (f + i - f) (λ j a b.
      let d : ℕ = j - f in
      let own : f + d ≡ j = omega arith in
      ne_eqb _ _ (λ g. absurd (omega (arith, g, id_of i h, rw own at (id_of d (omega arith))))))
      ∙ e

  module _ (i : ℕ) (h : i < count) where
    abbrev k : ℕ
    k = f + i

    abbrev b : List ℕ
    b = car_block (vehicle_block plan 0) seed (f + 1) i

    there : block m k ≡ b
    there = car_there plan c one seed count i h

    kind : kind_at m k ≡ Vehicle
    kind = same_kind k ∙ kind_vehicle plan i

    abbrev vehicle : List ℕ
    vehicle = vehicle_block plan 0

    own_length : length vehicle ≡ 512
    own_length = length_vehicle plan c one seed count

    abbrev part : ℕ → ℕ
    part d = draw seed (3 * i + d) % 512

    fields_pass : holds (vehicle_tests b) ≡ true
    unfolding car_block
    fields_pass =
        fields_hold vehicle own_length (vehicle_tests_lem plan fine 0 (omega (arith, one))) (f + 1 + i) (i + 1) (part 2) (512 + part 3) (draw seed (3 * i + 1) % 86400) (omega arith) (omega arith) (omega arith)

    profile_named : le_at 4 b 4 ≡ le_at 4 vehicle 4
    unfolding car_block
    profile_named =
        le_at-same 4 b vehicle 4 (λ j a e. profile_same vehicle own_length (f + 1 + i) (i + 1) (ratio (part 2) 1024) (ratio (512 + part 3) 1024) (draw seed (3 * i + 1) % 86400) j a (omega arith))

    check_passes : passes (k + 1) b ≡ true
    unfolding car_block
    check_passes =
        let e : k + 1 ≡ f + 1 + i = omega arith in
        rw e (sealed-passes (f + 1 + i) _ (length-car vehicle own_length (i + 1) _ _ _))

    own_profile : broken NoProfile plan (f + 0) ≡ false
    own_profile = own_passes NoProfile (f + 0) (omega (arith, blocks))

    car_passes : (r : Rule) → broken r m k ≡ false
    car_passes Length = refl
    car_passes Check = rw (there, check_passes)
    car_passes Header = rw (ne_eqb k 0 (λ e. absurd (omega arith)))
    car_passes Field = rw (kind, there, fields_pass)
    car_passes NoPoint = rw kind
    car_passes EqualSoc = rw kind
    car_passes UsedId = rw (kind, same_start Vehicle, new_id i h) (le-ltb k k (omega arith))
    car_passes NoProfile = rw (kind, there, profile_named, profiles, same_search 1 (1 + profile_count plan) (le_at 4 vehicle 4) (omega arith)) (rw (kind_vehicle plan 0) at own_profile)

  -- ---- all of them

  by_block : (r : Rule) (k : ℕ) → k < n → broken r m k ≡ false
  by_block r zero h = header_passes r
  by_block r (suc k) h = go (ltb (suc k) f) refl
    where
      go : (t : Bool) → ltb (suc k) f ≡ t → broken r m (suc k) ≡ false
      go true e = let near = ltb-true (suc k) f e in same_broken r (suc k) (omega arith) near ∙ own_passes r (suc k) (omega (arith, blocks, near))
      go false e =
          let past = ltb-false (suc k) f e in
          let i : ℕ = suc k - f in
          let own : f + i ≡ suc k = omega (arith, past) in
          rw own at (car_passes i (omega (arith, past)) r)

  pub blocks_fine : check_blocks m ≡ Ok tt
  unfolding check_blocks
  blocks_fine =
      let size : length m / 512 ≡ n = omega (arith, length_m) in
      rw (length_m, blocks_whole n 113 (omega arith) (omega (arith, c.profiles, c.chargers))) (none_refused rules m _ (λ r k h. by_block r k (omega (arith, h))))

-- A charger is busy exactly while one unplug is pending there, in a run by events.
use Rattle.std.proofs.Common.{◌≡◌, ℕ, zero, suc, ◌+◌, ◌<◌, ◌≤◌, Bool, true, false, cond, not, ◌&&◌, eqb, List, [], ◌∷◌, length, get_or, set, sym, refl, ap, ◌∙◌, arith, length-set, get_or-set_other, get_or-set_same, lt-length-set, eqb-true}
use borrow.Author.Tests.{eqb-false}
use lib.ListN.{length-replicate, get_or-replicate}
use Rattle.charger.specs.declared.vehicle.Vehicle.{Vehicle}
use Rattle.charger.specs.Lists.{tick, count}
use Rattle.engine.specs.declared.events.Event.{Event}
use Rattle.engine.specs.declared.events.EventType.{EventType}
use Rattle.engine.specs.declared.events.EventType.TheVariants.{Arrival, Renege, Unplug}
use Rattle.engine.specs.Plan.{Plan, fits, stay}
use Rattle.engine.specs.Events.{arrival, renege, unplug, push, generate}
use Rattle.engine.specs.SiteState.{SiteState, start_charging, free_at, available}
use Rattle.engine.specs.Discrete.{Occupant, no_car, car, State, events, start, step, after, run}
use Rattle.engine.specs.Demand.{is_unplug, unplugs}
use Rattle.engine.proofs.discrete.Stepped.{Stepped, stepped, ended, charges, balks, waits, frees, passes, reneges, misses}
use Rattle.engine.proofs.site.Laws.{count-push}

abbrev taken : Occupant → Bool
taken no_car = false
taken (car v) = true

-- whether somebody stands at the charger; past the last it counts as taken
abbrev pub taken_at : List Occupant → ℕ → Bool
taken_at l c = taken (get_or l c (car 0))

-- nobody stands at a charger that is there
pub taken_past : (l : List Occupant) (c : ℕ) → tick (taken_at l c) ≡ 0 → c < length l
taken_past [] c h = absurd (omega (arith, h))
taken_past (o ∷ l) zero h = omega arith
taken_past (o ∷ l) (suc c) h = omega (arith, taken_past l c h)

-- somebody stands at a charger as often as unplugs are pending there
abbrev pub Flagged : State → Type 0
Flagged s = (c : ℕ) → c < length s.site.places → count (unplugs c) s.site.pending ≡ tick (taken_at s.site.places c)

-- a place is free if nobody stands there
pub free_at_lem : (p : Plan) (l : List Occupant) (c : ℕ) → free_at p (events p) l c ≡ not (taken_at l c)
free_at_lem p [] c = refl
free_at_lem p (no_car ∷ l) zero = refl
free_at_lem p (car v ∷ l) zero = refl
free_at_lem p (b ∷ l) (suc c) = free_at_lem p l c

-- who stands there after a store: the stored one at its own place, as it was elsewhere
flag_set : (l : List Occupant) (c d : ℕ) (b : Occupant) → c < length l → (x : Bool) → eqb c d ≡ x → tick (taken_at (set l d b) c) ≡ cond x (tick (taken b)) (tick (taken_at l c))
flag_set l c d b h true e = rw (← eqb-true c d e) (ap (λ (o : Occupant). tick (taken o)) (get_or-set_same l c b (car 0) h))
flag_set l c d b h false e = ap (λ (o : Occupant). tick (taken o)) (get_or-set_other l d c b (car 0) (eqb-false c d e))

pub tick_le : (b : Bool) → tick b ≤ 1
tick_le true = omega arith
tick_le false = omega arith

free_flag : (b f : Bool) → (not b && f) ≡ true → tick b ≡ 0
free_flag true f h = let z : ◌≡◌ {A = ℕ} 0 1 = cc in omega arith
free_flag false f h = refl

pub available_flag : (p : Plan) (f : SiteState Occupant) (v d : ℕ) → available p (events p) f v d ≡ true → tick (taken_at f.places d) ≡ 0
available_flag p f v d a = free_flag (taken_at f.places d) (fits p v d) (rw free_at_lem at a)

module _ (p : Plan) (c : ℕ) (s : State) where
  pub popped : (e : Event) (es : List Event) (k : EventType) → s.site.pending ≡ e ∷ es → e.kind ≡ k
      → count (unplugs c) s.site.pending ≡ tick (is_unplug k && eqb c e.charger) + count (unplugs c) es
  popped e es k l h = rw (l, h)

-- a charger that was free is taken, one that is popped is freed, and one that is passed on stays taken
module _ (l : List Occupant) (c d v : ℕ) (h : c < length l) where
  taken_flag : (x : Bool) → eqb c d ≡ x → tick (taken_at l d) ≡ 0 → tick x + tick (taken_at l c) ≡ tick (taken_at (set l d (car v)) c)
  taken_flag true e f = omega (arith, flag_set l c d (car v) h true e, f, ap (λ (n : ℕ). tick (taken_at l n)) (eqb-true c d e))
  taken_flag false e f = omega (arith, flag_set l c d (car v) h false e)

  freed_flag : (x : Bool) (n : ℕ) → eqb c d ≡ x → tick x + n ≡ tick (taken_at l c) → n ≡ tick (taken_at (set l d no_car) c)
  freed_flag true n e f = omega (arith, flag_set l c d no_car h true e, f, tick_le (taken_at l c))
  freed_flag false n e f = omega (arith, flag_set l c d no_car h false e, f)

  passed_flag : (x : Bool) (n : ℕ) → eqb c d ≡ x → n ≡ tick (taken_at (set l d no_car) c) → tick x + n ≡ tick (taken_at (set (set l d no_car) d (car v)) c)
  passed_flag true n e f =
      omega (arith, flag_set (set l d no_car) c d (car v) (lt-length-set l d no_car h) true e, f, flag_set l c d no_car h true e)
  passed_flag false n e f = omega (arith, flag_set (set l d no_car) c d (car v) (lt-length-set l d no_car h) false e, f)

flagged_stepped : (p : Plan) (s : State) {t : State} → Stepped p s t → Flagged s → Flagged t
unfolding start_charging
flagged_stepped p s (ended l) h c i = h c i
flagged_stepped p s (charges e es d l k a) h c i =
    let j : c < length s.site.places = omega (arith, i, length-set s.site.places d (car e.vehicle)) in
    omega (
      arith,
      count-push (unplugs c) (unplug (e.time + stay p e.vehicle d) e.vehicle d) es,
      popped p c s e es Arrival l k,
      h c j,
      taken_flag s.site.places c d e.vehicle j (eqb c d) refl (available_flag p s.site e.vehicle d a),
    )
flagged_stepped p s (balks e es l k) h c i = omega (arith, popped p c s e es Arrival l k, h c i)
flagged_stepped p s (waits e es l k) h c i = omega (arith, popped p c s e es Arrival l k, h c i)
flagged_stepped p s (frees e es l k) h c i =
    let j : c < length s.site.places = omega (arith, i, length-set s.site.places e.charger no_car) in
    freed_flag s.site.places c e.charger 0 j (eqb c e.charger) (count (unplugs c) es) refl (omega (arith, popped p c s e es Unplug l k, h c j))
flagged_stepped p s (passes e es q v r l k x a) h c i =
    let b = set s.site.places e.charger no_car in
    let j : c < length b = omega (arith, i, length-set b e.charger (car v)) in
    let g : c < length s.site.places = omega (arith, j, length-set s.site.places e.charger no_car) in
    let n = count (unplugs c) es in
    let f : n ≡ tick (taken_at b c) = freed_flag s.site.places c e.charger v g (eqb c e.charger) n refl (omega (arith, popped p c s e es Unplug l k, h c g)) in
    omega (
      arith,
      count-push (unplugs c) (unplug (e.time + stay p v e.charger) v e.charger) es,
      f,
      passed_flag s.site.places c e.charger v g (eqb c e.charger) n refl f,
    )
flagged_stepped p s (reneges e es q v r l k x a) h c i = omega (arith, popped p c s e es Renege l k, h c i)
flagged_stepped p s (misses e es l k a) h c i = omega (arith, popped p c s e es Renege l k, h c i)

flagged_after : (p : Plan) (n : ℕ) (s : State) → Flagged s → Flagged (after p n s)
flagged_after p zero s h = h
flagged_after p (suc n) s h = flagged_after p n (step p s) (flagged_stepped p s (stepped p s) h)

-- at the start no unplug is pending
pub no_unplug : (c v : ℕ) (xs : List Vehicle) (l : List Event) → count (unplugs c) (generate v xs l) ≡ count (unplugs c) l
no_unplug c v [] l = refl
no_unplug c v (x ∷ xs) l =
    let a = arrival x.arrival v in
    let r = renege (x.arrival + x.wait) v in
    omega (arith, no_unplug c (suc v) xs (push r (push a l)), count-push (unplugs c) r (push a l), count-push (unplugs c) a l)

pub flagged : (p : Plan) (n : ℕ) → Flagged (run p n)
flagged p n =
    flagged_after p n (start p)
    (λ c i. no_unplug c 0 p.vehicles [] ∙ sym (ap (λ (o : Occupant). tick (taken o)) (get_or-replicate (length p.chargers) c no_car (car 0) (omega (arith, i, length-replicate (length p.chargers) no_car)))))

-- Request 13: the law of specs/HotDay, for the curve of every profile within the limits.
use Rattle.std.proofs.Common.{◌≡◌, ℕ, Bool, true, false, ◌||◌, T, List, [], ◌∷◌, sym, inr, true≢false}
use lib.Ieee.{Float, nan, inf, fin, add, sub, mul, div, lt, le, eq, ne, fits}
use lib.Ieee.Bits.{is_true}
use lib.Ieee.Scale.{finite}
use lib.Ieee.Positive.{positive, between}
use Rattle.curve.specs.F64.{ratio, within, clear}
use Rattle.curve.specs.Limits.{Soc, Battery, Held}
use Rattle.curve.specs.Curve.{nothing, integrate_over, curve_of}
use Rattle.curve.specs.HotDay.{Derated, HotDay}
use Rattle.curve.specs.declared.points.Point.{Point}
use Rattle.curve.specs.declared.charge_profile.ChargingOutput.{ChargingOutput}
use Rattle.curve.specs.declared.units.Kw.{Kw}
use Rattle.curve.specs.declared.units.Kwh.{Kwh}
use Rattle.curve.proofs.float.Compare.{lt_le, le_trans_clear, eq_back}
use Rattle.curve.proofs.float.Limits.{tests, tested}
use Rattle.curve.proofs.float.Monotone.{le_self}
use Rattle.curve.proofs.float.Quotients.{slower_zero}
use Rattle.curve.proofs.sort.Held.{curve_held}
use Rattle.curve.proofs.sort.Sorted.{Starts, starts, held_socs}
use Rattle.curve.proofs.charge_profile.Laws.{same_energy}
use Rattle.curve.proofs.charge_profile.LowerCap.{Rated, along-rated}

-- ---- what is asked of the caps, the battery and the durations
above-clear : (x : Float) → lt (ratio 0 1) x ≡ true → T (clear x)
unfolding ratio lt
above-clear nan t = absurd (true≢false (sym t))
above-clear (inf true) t = absurd (true≢false (sym t))
above-clear (inf false) t = tt
above-clear (fin true m e) t = absurd (true≢false (sym t))
above-clear (fin false m e) t = tt

battery_positive : (x : Float) → Battery x → T (positive x)
unfolding ratio
battery_positive x h = between (ratio 1 1) x (ratio 1024 1) tt tt h.low h.high

within_finite : (x : Float) → T (within x) → T (finite x)
unfolding le ratio
within_finite nan t = absurd t
within_finite (inf true) t = absurd t
within_finite (inf false) t = absurd t
within_finite (fin s m e) t = tt

nothing-rated : Rated nothing nothing
unfolding ratio
nothing-rated = record { slower = slower_zero; low_clear = tt; high_clear = tt; lower = le_self (ratio 0 1) tt }

or_second : (a b : Bool) → T b → T (a || b)
or_second true b t = tt
or_second false b t = t

zero_clear : T (clear (ratio 0 1))
unfolding ratio
zero_clear = tt

-- a first point at SOC 0 is not above the start
at_zero : (x s : Float) → Soc x → Soc s → T (eq (ratio 0 1) x) → T (le x s)
unfolding le
at_zero x s p q e = le_trans_clear x (ratio 0 1) s p.clear zero_clear q.clear (or_second (lt x (ratio 0 1)) (eq x (ratio 0 1)) (eq_back x (ratio 0 1) e)) q.low

module _ (battery : Kwh) (start target : Float) (battery-held : Battery battery.0) (start-soc : Soc start) (target-soc : Soc target)
    (a b : Kw) (a-clear : T (clear a.0)) (b-clear : T (clear b.0)) (lower : T (le a.0 b.0)) where
  rated : (ps : List Point) → Held ps → Starts ps → Rated (integrate_over ps battery start target a) (integrate_over ps battery start target b)
  unfolding integrate_over Held Starts
  rated [] h s = nothing-rated
  rated (p ∷ ps) h s =
      along-rated (p ∷ ps) h battery (battery_positive battery.0 battery-held) target target-soc a b a-clear b-clear lower
      ps p start nothing nothing h.0 h.2 start-soc (inr (at_zero p.soc start h.0 start-soc s)) nothing-rated

-- the law; of the two durations only the lower cap's has to pass check 12
pub hot_day : (profile : List Point) (battery : Kwh) (start target : Float) → Held profile → Battery battery.0 → Soc start → Soc target → HotDay profile battery start target
hot_day ps battery start target h hb hs ht a b above lower passes _ =
    let curve = curve_of ps in
    let t = is_true (lt (ratio 0 1) a.0) above in
    let ca = above-clear a.0 t in
    let cb = above-clear b.0 (lt_le (ratio 0 1) a.0 b.0 t (is_true (le a.0 b.0) lower)) in
    let r = rated battery start target hb hs ht a b ca cb lower curve (curve_held ps h) (starts ps (held_socs ps h)) in
    record {
      duration = (r.slower.longer (within_finite (integrate_over curve battery start target a).duration.0 passes)).1;
      peak = r.lower;
      energy = same_energy curve battery start target a b;
    }

-- ---- what is asked can be met: M7's profile from 0.5 to 1, capped at 50 and at 75 kW
abbrev at : ℕ → ℕ → ℕ → Point
at a b p = record { soc = ratio a b; power = record { 0 = ratio p 1 } }

abbrev m7 : List Point
m7 = at 0 1 100 ∷ at 1 2 100 ∷ at 1 1 50 ∷ []

m7_held : Held m7
unfolding Held ratio fits le
m7_held =
    let ok : (n d : ℕ) → T (tests (ratio 0 1) (ratio n d) (ratio 1 1)) → Soc (ratio n d) = λ n d t. tested (ratio 0 1) (ratio n d) (ratio 1 1) t in
    (ok 0 1 tt, tested _ (ratio 100 1) _ tt, (ok 1 2 tt, tested _ (ratio 100 1) _ tt, (ok 1 1 tt, tested _ (ratio 50 1) _ tt, tt)))

abbrev m7_at : ℕ → ChargingOutput
m7_at cap = integrate_over (curve_of m7) (record { 0 = ratio 50 1 }) (ratio 1 2) (ratio 1 1) (record { 0 = ratio cap 1 })

m7_derated : Derated (m7_at 50) (m7_at 75)
unfolding integrate_over curve_of ratio fits lt le ne add mul div sub
m7_derated =
    hot_day m7 (record { 0 = ratio 50 1 }) (ratio 1 2) (ratio 1 1) m7_held (tested (ratio 1 1) (ratio 50 1) (ratio 1024 1) tt) (tested (ratio 0 1) (ratio 1 2) (ratio 1 1) tt) (tested (ratio 0 1) (ratio 1 1) (ratio 1 1) tt)
    (record { 0 = ratio 50 1 }) (record { 0 = ratio 75 1 }) tt tt tt tt

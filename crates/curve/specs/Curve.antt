-- Rules. The charge curve: power as a function of SOC, and what charging from one SOC to another takes.
use Rattle.std.specs.Prelude.{ℕ, zero, suc, cond, ◌||◌, List, [], ◌∷◌, length, get_or, nat_lt, slice_index_or, Float}
use Rattle.std.specs.Float.Ieee.{lt, le}
use Rattle.curve.specs.F64.{◌⊕◌, ◌⊖◌, ◌⊗◌, ◌⊘◌, ratio, least, greatest}
use Rattle.curve.specs.declared.units.Kw.{Kw}
use Rattle.curve.specs.declared.points.Point.{Point}
use Rattle.curve.specs.declared.units.Kwh.{Kwh}
use Rattle.curve.specs.declared.charge_profile.Charge.{Charge}
use Rattle.curve.specs.declared.charge_profile.ChargingOutput.{ChargingOutput}

-- SOC 0 and no power
abbrev pub origin : Point
origin = record { soc = ratio 0 1; power = record { 0 = ratio 0 1 } }

-- the power at SOC s on the line through p and q
abbrev pub between : Point → Point → Float → Kw
between p q s = record { 0 = p.power.0 ⊕ (s ⊖ p.soc) ⊗ (q.power.0 ⊖ p.power.0) ⊘ (q.soc ⊖ p.soc) }

-- how many points, from the first, are at or below SOC s
unfoldable pub reached : Float → List Point → ℕ
reached s [] = 0
reached s (p ∷ ps) = cond (lt s p.soc) 0 (suc (reached s ps))

-- the power at SOC s where that many are: below the first point its power, at or past the last its power
unfoldable pub power_after : List Point → Float → ℕ → Kw
unfolding ratio
power_after ps s zero = (get_or ps 0 origin).power
power_after ps s (suc i) = cond (nat_lt (suc i) (length ps)) (between (slice_index_or ps i origin) (slice_index_or ps (suc i) origin) s) (get_or ps i origin).power

-- the power at SOC s
unfoldable pub power_at : List Point → Float → Kw
unfolding reached power_after
power_at ps s = power_after ps s (reached s ps)

-- the average power over a part of a segment: the powers at its two ends are each capped, then averaged
abbrev pub average : Kw → Kw → Kw → Kw
average a b cap = record { 0 = ratio 1 2 ⊗ (least a.0 cap.0 ⊕ least b.0 cap.0) }

module _ (curve : List Point) (battery : Kwh) (target : Float) (cap : Kw) where
  -- charging over the part of the segment from p to q that lies between the SOC reached and the target
  abbrev pub part : Point → Point → Charge → Charge
  part p q c =
      let s = greatest c.soc p.soc in
      let e = least target q.soc in
      let energy = (e ⊖ s) ⊗ battery.0 in
      let mean = (average (power_at curve s) (power_at curve e) cap).0 in
      record {
        soc = e;
        output = record {
          duration = record { 0 = c.output.duration.0 ⊕ ratio 3600 1 ⊗ energy ⊘ mean };
          energy = record { 0 = c.output.energy.0 ⊕ energy };
          peak = record { 0 = greatest c.output.peak.0 mean };
        };
      }

  -- nothing, if the SOC reached is at or past the target or the segment's end
  unfoldable pub through : Point → Point → Charge → Charge
  unfolding power_at
  through p q c = cond (le target c.soc || le q.soc c.soc) c (part p q c)

  -- every segment from p on, in order
  unfoldable pub along : Point → List Point → Charge → Charge
  unfolding through
  along p [] c = c
  along p (q ∷ qs) c = along q qs (through p q c)

-- duration, energy and peak all zero
abbrev pub nothing : ChargingOutput
nothing = record { duration = record { 0 = ratio 0 1 }; energy = record { 0 = ratio 0 1 }; peak = record { 0 = ratio 0 1 } }

-- what charging from one SOC to another takes, with the power capped
unfoldable pub integrate_over : List Point → Kwh → Float → Float → Kw → ChargingOutput
unfolding along
integrate_over [] battery start target cap = nothing
integrate_over (p ∷ ps) battery start target cap = (along (p ∷ ps) battery target cap p ps (record { soc = start; output = nothing })).output

-- ---- the points of a block made a curve

-- of two points the one of lower SOC, and the other; p is the one to stay where they are equal
abbrev pub lower : Point → Point → Point
lower p q = cond (lt q.soc p.soc) q p

abbrev pub upper : Point → Point → Point
upper p q = cond (lt q.soc p.soc) p q

-- p put in its place among points that rise by SOC
unfoldable pub insert : Point → List Point → List Point
insert p [] = p ∷ []
insert p (q ∷ qs) = lower p q ∷ insert (upper p q) qs

-- each of the points, in order, put into those before it
unfoldable pub sort_into : List Point → List Point → List Point
unfolding insert
sort_into done [] = done
sort_into done (p ∷ ps) = sort_into (insert p done) ps

-- SOC 0 with the first power, if the first SOC is above 0
unfoldable pub with_start : List Point → List Point
unfolding ratio
with_start [] = []
with_start (p ∷ ps) = cond (lt (ratio 0 1) p.soc) (record { soc = ratio 0 1; power = p.power } ∷ p ∷ ps) (p ∷ ps)

-- SOC 1 with the last power, if the last SOC is below 1
unfoldable pub with_end : List Point → List Point
unfolding ratio
with_end [] = []
with_end (p ∷ []) = cond (lt p.soc (ratio 1 1)) (p ∷ record { soc = ratio 1 1; power = p.power } ∷ []) (p ∷ [])
with_end (p ∷ q ∷ qs) = p ∷ with_end (q ∷ qs)

-- by rising SOC, with both ends
unfoldable pub curve_of : List Point → List Point
unfolding sort_into with_start with_end
curve_of ps = with_end (with_start (sort_into [] ps))

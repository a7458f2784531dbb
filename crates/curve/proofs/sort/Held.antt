-- The curve of points within the limits has its points within the limits too.
use Rattle.std.proofs.Common.{Bool, true, false, cond, List, [], ◌∷◌}
use lib.Ieee.{lt, le, fits}
use Rattle.curve.specs.F64.{ratio}
use Rattle.curve.specs.Limits.{Soc, Power, Held}
use Rattle.curve.specs.Curve.{sort_into, with_start, with_end, curve_of}
use Rattle.curve.specs.declared.points.Point.{Point}
use Rattle.curve.proofs.float.Limits.{tested}
use Rattle.curve.proofs.sort.Sorted.{Each, each_permuted, sorted_permutes}

abbrev Good : Point → Type 0
Good p = Soc p.soc × Power p.power.0

each_good : (ps : List Point) → Held ps → Each Good ps
unfolding Held Each
each_good [] h = tt
each_good (p ∷ ps) h = ((h.0, h.1), each_good ps h.2)

all_held : (ps : List Point) → Each Good ps → Held ps
unfolding Held Each
all_held [] h = tt
all_held (p ∷ ps) h = (h.0.0, h.0.1, all_held ps h.1)

start_held : (ps : List Point) → Held ps → Held (with_start ps)
unfolding with_start Held ratio fits le
start_held [] h = tt
start_held (p ∷ ps) h = go (lt (ratio 0 1) p.soc)
  where
    go : (b : Bool) → Held (cond b (record { soc = ratio 0 1; power = p.power } ∷ p ∷ ps) (p ∷ ps))
    go true = (tested (ratio 0 1) (ratio 0 1) (ratio 1 1) tt, h.1, h)
    go false = h

end_held : (ps : List Point) → Held ps → Held (with_end ps)
unfolding with_end Held ratio fits le
end_held [] h = tt
end_held (p ∷ []) h = go (lt p.soc (ratio 1 1))
  where
    go : (b : Bool) → Held (cond b (p ∷ record { soc = ratio 1 1; power = p.power } ∷ []) (p ∷ []))
    go true = (h.0, h.1, (tested (ratio 0 1) (ratio 1 1) (ratio 1 1) tt, h.1, tt))
    go false = h
end_held (p ∷ q ∷ qs) h = (h.0, h.1, end_held (q ∷ qs) h.2)

pub curve_held : (ps : List Point) → Held ps → Held (curve_of ps)
unfolding curve_of
curve_held ps h =
    let sorted = all_held (sort_into [] ps) (each_permuted Good (sorted_permutes ps) (each_good ps h)) in
    end_held (with_start (sort_into [] ps)) (start_held (sort_into [] ps) sorted)

-- Refinement: the curves of the plan's profiles, in one table of points: 32 a profile, of which its first ones are its curve.
use Rattle.std.specs.Prelude.{cond, ◌&&◌, List, [], ℕ, ◌+◌, ◌*◌, leb, ltb, length, get_or, take, drop}
use Rattle.curve.specs.declared.points.Point.{Point}
use Rattle.charger.specs.declared.charge_profile_list.Profiles.{Profiles}

-- the curve of the profile at a place of the plan; none past the last, or where the table is too short
unfoldable pub curve_at : List Point → List ℕ → ℕ → List Point
curve_at curves lens k =
    let n = get_or lens k 0 in
    cond (ltb k (length lens) && leb (32 * k + n) (length curves)) (take n (drop (32 * k) curves)) []

-- the same in a table that is lent
abbrev pub curve_in : Profiles → ℕ → List Point
curve_in p = curve_at p.points.now p.lens.now

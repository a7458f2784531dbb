use Rattle.std.proofs.Common.{◌≤◌, ◌≡◌, length, sym, refl, arith, length-take-le}
use Rattle.fixed_vec.proofs.vector.FixedVec.as_mut_slice.Goals as goal

pub returns : goal.returns
returns g c =
    let inside = c.self.inside in
    let long : length inside.cells.xs ≡ g.row.CAP = c.front_mut.ensures.full in
    let within : inside.len ≤ length inside.cells.xs = omega (arith, long, c.self.invariant) in
    let cut = length-take-le inside.len inside.cells.xs within in
    rw (← c.self.view_is) (
      (refl, λ w. refl),
      record {
        writes_back = tt;
        value = c.front_mut.ensures.value;
        start = sym cut;
        fits = rw (c.front_mut.ensures.value, cut) c.self.invariant;
      },
    )

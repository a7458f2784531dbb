-- `files::pairs::fails` meets its contract. Assumes nothing.
use Rattle.std.proofs.Common.{◌≡◌, true, sym, ◌∙◌}
use lib.Ieee.{of_bits}
use Rattle.curve.specs.F64.{ratio}
use Rattle.charger.specs.Vehicle.{compatible}
use Rattle.engine.specs.Code.Simulation.{plan_of}
use Rattle.engine.specs.Plan.{row_at, output, rated, vehicle}
use Rattle.files.proofs.pairs.fails.Goals as goal

pub returns : goal.returns
unfolding of_bits ratio output rated
returns c =
    let p = plan_of c.args.site.now in
    let fit : compatible (row_at p.connectors c.args.c) (vehicle p c.args.v) ≡ true =
    rw (← c.row.ensures, ← c.get_vehicle.ensures) (sym c.fits.ensures ∙ c.if-not-fits.false) in
    rw (fit, c.output-duration.ensures)

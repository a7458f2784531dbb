use Rattle.std.proofs.Common.{arith}
use Rattle.charger.specs.Lists.{none, also}
use Rattle.charger.specs.Code.Vehicles.{listed}
use Rattle.charger.proofs.Lists.{all_append}
use Rattle.files.specs.BookSession.{entry, Fits}
use Rattle.files.specs.Code.Writing.{rows_of}
use Rattle.files.proofs.book_session.Told.{map_more}
use Rattle.files.proofs.book_session.entries_of_plan.Goals as goal

pub loop-x-init : goal.loop-x-init
loop-x-init c = record { many = rw c.new-all.ensures; so_far = c.new-all.ensures; fit = rw c.new-all.ensures none }

pub loop-x-preserved : goal.loop-x-preserved
loop-x-preserved c =
    -- an entry's fields fit their widths, since they are numbers of the machine
    let fits : Fits c.entry.result = record {
      vehicle = omega (arith, c.entry.type_inv);
      profile = omega (arith, c.entry.type_inv);
      charger = omega (arith, c.entry.type_inv);
      connector = omega (arith, c.entry.type_inv);
      outcome = omega (arith, c.entry.type_inv);
      fleet = omega (arith, c.entry.type_inv);
      arrival = omega (arith, c.entry.type_inv);
      plugin = omega (arith, c.entry.type_inv);
      unplug = omega (arith, c.entry.type_inv);
      wait = omega (arith, c.entry.type_inv);
      duration = omega (arith, c.entry.type_inv);
      idle = omega (arith, c.entry.type_inv);
      peak = omega (arith, c.entry.type_inv);
      energy = omega (arith, c.entry.type_inv);
      start = omega (arith, c.entry.type_inv);
      end = omega (arith, c.entry.type_inv);
    } in
    record {
      many = omega (arith, c.push.ensures.len, c.loop-x.invariant.many);
      so_far =
          map_more (entry c.args.plan.now.file (listed c.args.site.now.vehicles) (rows_of c.args.plan.now.file c.args.site.now)) c.args.sessions.now c.loop-x.all.items _ c.loop-x.x-index _ _
          c.loop-x-test.true
          c.loop-x.invariant.so_far
          c.entry.ensures
          c.push.ensures.items;
      fit = rw c.push.ensures.items (all_append c.loop-x.invariant.fit (also fits none));
    }

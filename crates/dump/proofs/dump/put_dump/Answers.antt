-- `dump::dump::put_dump` meets its contract. Assumes nothing.
use Rattle.std.proofs.Common.{◌≡◌, ◌∙◌, ◌+◌, ◌*◌, ◌/◌, ◌≤◌, length, ap, sym, arith}
use lib.ListN.{length-map}
use Rattle.std.proofs.lemmas.List.{length-reverse}
use Rattle.charger.specs.Code.Vehicles.{listed}
use Rattle.engine.specs.Code.Simulation.{model}
use Rattle.files.specs.Read.{vehicles_of, connector_rows}
use Rattle.files.specs.BookSession.{book_sessions, entry}
use Rattle.files.specs.Code.Writing.{rows_of}
use Rattle.dump.specs.Dump.{dump_bytes}
use Rattle.dump.proofs.dump.Laws.{length_dump, put_whole}
use Rattle.dump.proofs.dump.Starts.{within}
use Rattle.dump.proofs.dump.put_dump.Goals as goal

pub put_event_blocks-requires : goal.put_event_blocks-requires
put_event_blocks-requires c =
    record {
      few = omega (arith, c.as_slice-events.ensures.bound);
      room = omega (arith, c.as_slice-events.ensures.bound, c.requires.room, c.put_state.auto);
      near = rw (← c.as_slice-events.ensures.items) c.requires.state.events;
      place = omega arith;
    }

pub put_session_blocks-requires : goal.put_session_blocks-requires
put_session_blocks-requires c =
    let xs = c.as_slice-sessions.result.now in
    let few : length xs ≤ 64 = omega (arith, ap length c.as_slice-sessions.ensures.value, ap length c.entries_of_plan-all.ensures.entries, length-map c.as_slice.result.now (entry c.args.plan.now (listed c.args.site.now.vehicles) (rows_of c.args.plan.now c.args.site.now)), ap length c.as_slice.ensures.value, c.requires.state.sessions) in
    record {
      few = few;
      place = omega (arith, c.as_slice-events.ensures.bound);
      room = omega (arith, few, c.as_slice-events.ensures.bound, c.requires.room, c.put_state.auto, c.put_event_blocks.auto);
    }

pub returns : goal.returns
unfolding book_sessions
returns c =
    let plan = c.args.plan.now in
    let s = model c.args.state.now in
    let events = c.as_slice-events.result.now in
    let said_of = c.as_slice-sessions.result.now in
    let vehicles : listed c.args.site.now.vehicles ≡ vehicles_of plan = c.requires.state.vehicles in
    let rows : rows_of plan c.args.site.now ≡ connector_rows plan = c.requires.state.connectors in
    -- the entries are what the book says of the sessions
    let said : said_of ≡ book_sessions plan s.site.sessions = c.as_slice-sessions.ensures.value ∙ c.entries_of_plan-all.ensures.entries ∙ rw (vehicles, rows, c.as_slice.ensures.value) in
    let popped = c.as_slice-events.ensures.items in
    let many : length s.site.pending ≡ length events = rw (popped, length-reverse) in
    let long : length (dump_bytes plan s) ≡ 512 + 512 * ((length events + 30) / 31) + 512 * ((length said_of + 4) / 5) = rw (many, ← said) at (length_dump plan s) in
    let few : length (book_sessions plan s.site.sessions) ≤ 64 = rw (length-map s.site.sessions (entry plan (vehicles_of plan) (connector_rows plan))) c.requires.state.sessions in
    let room : length (dump_bytes plan s) ≤ length c.args.s.now = omega (arith, long, ap length said, few, c.as_slice-events.ensures.bound, c.requires.room) in
    let bytes = put_whole plan s c.args.s.now c.put_state.new.s c.put_event_blocks.new.s c.put_session_blocks.new.s room c.put_state.ensures (rw popped c.put_event_blocks.ensures) (rw (many, ← said) c.put_session_blocks.ensures) in
    record { bytes = bytes; length = sym long; within = within (dump_bytes plan s) c.args.s.now _ _ bytes (sym long) }

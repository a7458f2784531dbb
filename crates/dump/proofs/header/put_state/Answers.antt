-- `dump::header::put_state` meets its contract. Assumes nothing.
use Rattle.std.proofs.Common.{◌≡◌, ◌∙◌, ℕ, List, ◌/◌, ap, length, sym}
use lib.Seq.{sets}
use Rattle.std.proofs.lemmas.List.{length-reverse}
use Rattle.engine.specs.Code.Simulation.{model}
use Rattle.dump.proofs.header.Laws.{state_header_lem}
use Rattle.dump.proofs.header.put_state.Goals as goal

pub returns : goal.returns
returns c =
    let s = c.args.state.now.simulation in
    let queue = c.as_slice-3.ensures.value ∙ c.queue_blocks-queue.ensures in
    let busy = c.as_slice-4.ensures.value ∙ (c.busy_blocks-busy.ensures ∙ rw c.as_slice.ensures.value) in
    let queued = c.len.ensures.value ∙ ap length (sym c.as_slice-3.ensures.value) in
    let twice = c.len-2.ensures.value ∙ ap length (sym c.as_slice-4.ensures.value) in
    let events : length c.as_slice-2.result.now ≡ length s.events.pending = rw (c.as_slice-2.ensures.items, length-reverse) in
    c.put_header.ensures
    ∙ ap (λ (b : List ℕ). sets c.args.s.now 0 b)
    (state_header_lem c.args.plan.now (model c.args.state.now) _ _ _ _ _ _ _ queue busy queued (ap (λ (n : ℕ). n / 2) twice) events c.len-3.ensures.value c.handled.ensures.value)

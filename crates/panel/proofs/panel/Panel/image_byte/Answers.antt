-- `panel::panel::Panel::image_byte` meets its contract. Assumes nothing.
use Rattle.std.proofs.Common.{◌-◌, get_or, ap, ◌∙◌, arith}
use Rattle.power.specs.declared.charger_state.ChargerState.{ChargerState}
use Rattle.panel.specs.Image.{status_byte, vehicle_id, energy_bits, image}
use Rattle.plan.specs.Bytes.{bytes}
use Rattle.panel.specs.Panel.{at_charger}
use Rattle.panel.specs.Code.Seen.{model}
use Rattle.panel.proofs.panel.ImageBytes.{id_byte, energy_byte}
use Rattle.panel.proofs.panel.Stands.{found_at}
use Rattle.panel.proofs.panel.Panel.image_byte.Goals as goal

pub returns-in-0 : goal.returns-in-0
unfolding image
returns-in-0 c =
    let at = found_at c.args.self.now c.requires.watches c.args.c c.requires.there c.deref.result.now c.deref.ensures.0 _ in
    rw c.in-0.is (c.status_byte.ensures ∙ ap (λ (s : ChargerState). status_byte s.status) at)

pub returns-in-1 : goal.returns-in-1
unfolding image
returns-in-1 c = rw c.in-1.is (c.byte.ensures ∙ rw (c.pending.ensures, c.sessions.ensures))

pub returns-in-2 : goal.returns-in-2
unfolding image
returns-in-2 c = rw c.in-2.is c.byte-in-2.ensures

pub returns-in-3 : goal.returns-in-3
unfolding image
returns-in-3 c = rw c.in-3.is

pub returns-in-4-to-7 : goal.returns-in-4-to-7
returns-in-4-to-7 c =
    let x = c.args.self.now in
    let s = model x in
    let id = c.from.ensures ∙ (c.vehicle_id.ensures ∙ ap (vehicle_id x.loaded.plan.now) (found_at x c.requires.watches c.args.c c.requires.there c.deref.result.now c.deref.ensures.0 _)) in
    c.byte_at.ensures
    ∙ (ap (λ n. get_or (bytes 8 n) (c.args.k - 4) 0) id ∙ id_byte x.loaded.plan.now (at_charger s.run c.args.c) (s.cabinets c.args.c) c.args.k (omega arith) (omega arith))

pub returns-in_default : goal.returns-in_default
returns-in_default c =
    let x = c.args.self.now in
    let s = model x in
    let energy = c.energy_bits.ensures ∙ ap energy_bits (found_at x c.requires.watches c.args.c c.requires.there c.deref.result.now c.deref.ensures.0 _) in
    c.byte_at-in_default.ensures
    ∙ (ap (λ n. get_or (bytes 8 n) (c.args.k - 8) 0) energy ∙ energy_byte x.loaded.plan.now (at_charger s.run c.args.c) (s.cabinets c.args.c) c.args.k (omega arith))

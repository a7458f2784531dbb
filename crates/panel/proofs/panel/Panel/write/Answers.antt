-- `panel::panel::Panel::write` meets its contract. Assumes nothing.
use Rattle.std.proofs.Common.{◌/◌, ◌%◌, sym, refl, ◌∙◌, arith, ne_eqb}
use Rattle.panel.specs.Registers.{bits_of}
use Rattle.panel.specs.Code.Seen.{sessions, seen_at}
use Rattle.panel.proofs.panel.Stands.{place_there, byte_keeps, cleared_is, cleared_seen}
use Rattle.panel.proofs.panel.Panel.write.Goals as goal

pub bounds-self-c : goal.bounds-self-c
bounds-self-c c = place_there c.args.self.now (c.args.address / 16) (sym c.is_there.ensures ∙ c.if-not-is_there.false)

pub returns-in-1-clause-left : goal.returns-in-1-clause-left
returns-in-1-clause-left c =
    let x = c.args.self.now in
    let k = c.args.address / 16 in
    let has = sym c.is_there.ensures ∙ c.if-not-is_there.false in
    let few = place_there x k has in
    rw (c.clear.ensures, c.of_byte.ensures, c.as_slice-sessions.ensures.value)
    (byte_keeps x k (omega arith) _ c.args.address c.args.byte refl has (rw c.in-1.is (cleared_is c.args.byte k (sessions x) (seen_at x k)))
    (cleared_seen (bits_of c.args.byte) k (sessions x) (seen_at x k) (c.requires.seen k)) c.requires)

pub returns-in-2-clause-left : goal.returns-in-2-clause-left
returns-in-2-clause-left c =
    let x = c.args.self.now in
    let k = c.args.address / 16 in
    let has = sym c.is_there.ensures ∙ c.if-not-is_there.false in
    let few = place_there x k has in
    rw c.of_byte-cabinet.ensures
    (byte_keeps x k (omega arith) _ c.args.address c.args.byte refl has (rw c.in-2.is refl)
    (record { plug_ins = (c.requires.seen k).plug_ins; releases = (c.requires.seen k).releases }) c.requires)

pub returns-in_default-clause-left : goal.returns-in_default-clause-left
returns-in_default-clause-left c =
    let x = c.args.self.now in
    let k = c.args.address / 16 in
    let has = sym c.is_there.ensures ∙ c.if-not-is_there.false in
    let few = place_there x k has in
    byte_keeps x k (omega arith) (seen_at x k) c.args.address c.args.byte refl has
    (rw (ne_eqb (c.args.address % 16) 1 (λ e. omega arith), ne_eqb (c.args.address % 16) 2 (λ e. omega arith))) (c.requires.seen k) c.requires

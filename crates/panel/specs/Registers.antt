-- Rules. Request 12: a cabinet's registers `pending` and `enable`, and its line.
use Rattle.std.specs.Prelude.{ℕ, ◌+◌, ◌*◌, ◌/◌, ◌%◌, Bool, false, not, ◌&&◌, ◌||◌, eqb}
use Rattle.charger.specs.Lists.{tick}
use Rattle.panel.specs.declared.registers.Bits.{Bits}

-- bit 0 is `started`, bit 1 `ended`; the rest of a byte is dropped
abbrev pub bits_of : ℕ → Bits
bits_of byte = record { started = eqb (byte % 2) 1; ended = eqb (byte / 2 % 2) 1 }

abbrev pub byte_of : Bits → ℕ
byte_of b = tick b.started + 2 * tick b.ended

abbrev pub no_bits : Bits
no_bits = record { started = false; ended = false }

pub record Cabinet : Type 0 where
  pub pending : Bits
  pub enable : Bits

-- the line is raised while pending and enable share a bit
abbrev pub line : Cabinet → Bool
line x = (x.pending.started && x.enable.started) || (x.pending.ended && x.enable.ended)

-- writing ones to pending clears them
abbrev pub with_cleared : ℕ → Cabinet → Cabinet
with_cleared byte x =
    record {
      pending = record { started = x.pending.started && not (bits_of byte).started; ended = x.pending.ended && not (bits_of byte).ended };
      enable = x.enable;
    }

-- enable takes bits 0 and 1
abbrev pub with_enable : ℕ → Cabinet → Cabinet
with_enable byte x = record { pending = x.pending; enable = bits_of byte }

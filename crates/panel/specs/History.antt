-- Rules. Request 12: what is pending and enabled after some operations, told by what came about in the run and what was written, and not by
-- the panel's own state.
use Rattle.std.specs.Prelude.{ℕ, zero, suc, ◌+◌, ◌*◌, Bool, false, cond, ◌&&◌, ◌||◌, List, [], ◌∷◌, leb, eqb}
use Rattle.engine.specs.Plan.{ChargerPlace, Plan}
use Rattle.engine.specs.Timestep.{run}
use Rattle.panel.specs.declared.registers.Bits.{Bits}
use Rattle.panel.specs.declared.script.Operation.{Operation}
use Rattle.panel.specs.declared.script.Operation.TheVariants.{Rounds, Read, Write, Line}
use Rattle.panel.specs.Registers.{Cabinet, bits_of, no_bits}
use Rattle.panel.specs.Events.{CabinetEvent, started, ended, comes}
use Rattle.panel.specs.Script.{rounds_in}

-- the write of the byte to the address clears the event's bit at the cabinet
abbrev pub clears : CabinetEvent → ChargerPlace → ℕ → ℕ → Bool
clears e c address byte = eqb address (16 * c + 1) && e.bit (bits_of byte)

-- How many rounds were asked for before the event's last clearing at the cabinet; 0 where it was never cleared. `n` rounds were asked for
-- before the operations, `last` before the last clearing until then.
abbrev pub clearing : CabinetEvent → ChargerPlace → ℕ → ℕ → List Operation → ℕ
clearing e c n last [] = last
clearing e c n last (Rounds m ∷ os) = clearing e c (n + m) last os
clearing e c n last (Read a ∷ os) = clearing e c n last os
clearing e c n last (Write a byte ∷ os) = clearing e c n (cond (clears e c a byte) n last) os
clearing e c n last (Line d ∷ os) = clearing e c n last os

-- what was written to the cabinet's enable last; `bits` before the operations
abbrev pub enabled : ChargerPlace → Bits → List Operation → Bits
enabled c bits [] = bits
enabled c bits (Rounds m ∷ os) = enabled c bits os
enabled c bits (Read a ∷ os) = enabled c bits os
enabled c bits (Write a byte ∷ os) = enabled c (cond (eqb a (16 * c + 2)) (bits_of byte) bits) os
enabled c bits (Line d ∷ os) = enabled c bits os

module _ (p : Plan) where
  -- the event came at the charger in one of the run's first n rounds, behind the first `from` of them
  abbrev pub came : CabinetEvent → ChargerPlace → ℕ → ℕ → Bool
  came e c from zero = false
  came e c from (suc n) = came e c from n || (leb from n && comes e c (run p n) (run p (suc n)))

  -- a bit is pending exactly if its event came after its last clearing, or came at all where it was never cleared
  abbrev pub is_pending : CabinetEvent → ChargerPlace → List Operation → Bool
  is_pending e c os = came e c (clearing e c 0 0 os) (rounds_in os)

  abbrev pub by_history : ChargerPlace → List Operation → Cabinet
  by_history c os =
      record {
        pending = record { started = is_pending started c os; ended = is_pending ended c os };
        enable = enabled c no_bits os;
      }

-- Rules. Request 12: a panel beside a run by steps. Reads and writes are of one byte, and fall outside step rounds.
use Rattle.std.specs.Prelude.{ℕ, zero, suc, ◌/◌, ◌%◌, cond, ◌||◌, List, length, get_or, ltb, eqb, Result, Ok, Err}
use Rattle.charger.specs.Lists.{tick}
use Rattle.power.specs.ChargerState.{empty}
use Rattle.power.specs.declared.charger_state.ChargerState.{ChargerState}
use Rattle.engine.specs.Plan.{ChargerPlace, Plan}
use Rattle.engine.specs.Timestep as T
use Rattle.panel.specs.declared.panel.AccessRefusal.{AccessRefusal}
use Rattle.panel.specs.declared.panel.AccessRefusal.TheVariants.{Outside, ReadOnly}
use Rattle.panel.specs.Registers.{Cabinet, no_bits, line, with_cleared, with_enable}
use Rattle.panel.specs.Events.{comes, started, ended}
use Rattle.panel.specs.Image.{image}

-- what is pending and enabled at each cabinet, beside the run's state
pub record Panel : Type 0 where
  pub run : T.State
  pub cabinets : ChargerPlace → Cabinet

-- what stands at the charger
abbrev pub at_charger : T.State → ChargerPlace → ChargerState
at_charger s c = get_or s.site.places c empty

-- the cabinet after some rounds: an event that came in them is pending
abbrev pub noticed : ChargerPlace → T.State → T.State → Cabinet → Cabinet
noticed c before after x =
    record {
      pending = record { started = x.pending.started || comes started c before after; ended = x.pending.ended || comes ended c before after };
      enable = x.enable;
    }

-- the cabinet at c is written
abbrev pub with_cabinet : ChargerPlace → Cabinet → Panel → Panel
with_cabinet c x s = record { run = s.run; cabinets = λ i. cond (eqb i c) x (s.cabinets i) }

-- the images stand one after the other, from address 0
abbrev pub cabinet_of : ℕ → ChargerPlace
cabinet_of address = address / 16

abbrev pub offset_of : ℕ → ℕ
offset_of address = address % 16

-- what a byte that is written at an offset leaves of a cabinet
abbrev pub with_byte : ℕ → ℕ → Cabinet → Cabinet
with_byte k byte x = cond (eqb k 1) (with_cleared byte x) (cond (eqb k 2) (with_enable byte x) x)

module _ (p : Plan) where
  -- nothing is pending or enabled
  abbrev pub start : Panel
  start = record { run = T.start p; cabinets = λ c. record { pending = no_bits; enable = no_bits } }

  -- a round of the run
  abbrev pub round : Panel → Panel
  round s =
      let after = T.round p s.run in
      record { run = after; cabinets = λ c. noticed c s.run after (s.cabinets c) }

  -- some rounds; once the run has ended they do nothing
  abbrev pub rounds : ℕ → Panel → Panel
  rounds zero s = s
  rounds (suc n) s = let more = rounds n (round s) in cond (T.ended p s.run) s more

  -- 20 where the charger is not one of the plan
  abbrev pub if_there : {A : Type 0} → ChargerPlace → Result A AccessRefusal → Result A AccessRefusal
  if_there c answer = cond (ltb c (length p.chargers)) answer (Err Outside)

  -- a byte that is read
  abbrev pub read : List ℕ → ℕ → Panel → Result ℕ AccessRefusal
  read plan address s =
      let c = cabinet_of address in
      if_there c (Ok (get_or (image plan (at_charger s.run c) (s.cabinets c)) (offset_of address) 0))

  -- a byte that is written: 21 after 20, but for pending and enable; else its answer has no byte
  abbrev pub write_answer : ℕ → Result ℕ AccessRefusal
  write_answer address =
      let k = offset_of address in
      if_there (cabinet_of address) (cond (eqb k 1 || eqb k 2) (Ok 0) (Err ReadOnly))

  -- and what it leaves
  abbrev pub write : ℕ → ℕ → Panel → Panel
  write address byte s =
      let c = cabinet_of address in
      cond (ltb c (length p.chargers)) (with_cabinet c (with_byte (offset_of address) byte (s.cabinets c)) s) s

  -- whether a cabinet's line is raised
  abbrev pub line_answer : ChargerPlace → Panel → Result ℕ AccessRefusal
  line_answer c s = if_there c (Ok (tick (line (s.cabinets c))))

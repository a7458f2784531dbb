-- Rules. The paper's bay as a plan's bytes: one profile, one charger and some cars. `ratio a b` is the f64 nearest to a / b.
use Rattle.std.specs.Prelude.{ℕ, suc, ◌-◌, List, [], ◌∷◌, ◌++◌, length, Float}
use Rattle.std.specs.Float.{binary64}
use Rattle.std.specs.Float.Ieee.{to_bits}
use Rattle.curve.specs.F64.{ratio}
use Rattle.curve.specs.declared.points.Point.{Point}
use Rattle.curve.specs.declared.units.Amperes.{Amperes}
use Rattle.curve.specs.declared.units.Kw.{Kw}
use Rattle.curve.specs.declared.units.Kwh.{Kwh}
use Rattle.curve.specs.declared.units.Seconds.{Seconds}
use Rattle.plan.specs.Bytes.{le_at, bytes}
use Rattle.plan.specs.Blocks.{words, check_of}

-- ---- numbers with their units

abbrev pub kw : ℕ → Kw
kw n = record { 0 = ratio n 1 }

abbrev pub amperes : ℕ → Amperes
amperes n = record { 0 = ratio n 1 }

abbrev pub kwh : ℕ → Kwh
kwh n = record { 0 = ratio n 1 }

abbrev pub seconds : ℕ → Seconds
seconds n = record { 0 = ratio n 1 }

-- a SOC
abbrev pub percent : ℕ → Float
percent n = ratio n 100

abbrev pub point : Float → Kw → Point
point soc power = record { soc = soc; power = power }

-- ---- what a plan is written from

pub record Car : Type 0 where
  pub start : Float
  pub target : Float
  pub idle : Seconds
  pub arrival : ℕ
  pub wait : ℕ
  pub queue_limit : ℕ
  pub fleet : ℕ

-- byte 12 of the header, and the site limit
pub record Limited : Type 0 where
  pub mode : ℕ
  pub limit : Kw

pub record Bay : Type 0 where
  pub limited : Limited
  pub battery : Kwh
  pub points : List Point
  pub max_power : Kw
  pub caps : List Amperes
  pub queue_places : List ℕ
  pub cars : List Car

-- ---- its blocks; a block's id is its place in the file

-- named bytes, zero bytes, and the check, to which zero bytes add nothing
unfoldable pub block : ℕ → List ℕ → List ℕ
unfolding bytes le_at words check_of
block place named = named ++ bytes (508 - length named) 0 ++ bytes 4 (check_of place named)

abbrev pub f64 : Float → List ℕ
f64 x = bytes 8 (to_bits binary64 x)

-- the letters PLAN; one profile, one charger, the cars; the site limit; the queue places of its fleets
abbrev pub header : Bay → List ℕ
header b =
    80 ∷ 76 ∷ 65 ∷ 78 ∷ [] ++ bytes 2 1 ++ bytes 2 1 ++ bytes 2 (length b.cars) ++ bytes 2 0
    ++ bytes 4 b.limited.mode ++ f64 b.limited.limit.0 ++ b.queue_places

abbrev pub point_fields : List Point → List ℕ
point_fields [] = []
point_fields (p ∷ ps) = f64 p.soc ++ f64 p.power.0 ++ point_fields ps

-- id, point count, battery, points
abbrev pub profile : Bay → List ℕ
profile b = bytes 4 2 ++ bytes 2 (length b.points) ++ bytes 2 0 ++ f64 b.battery.0 ++ point_fields b.points

abbrev pub cap_fields : List Amperes → List ℕ
cap_fields [] = []
cap_fields (c ∷ cs) = f64 c.0 ++ cap_fields cs

-- id, connector count 0, max power, 1,200 A, 400 V, the caps of its leads
abbrev pub charger : Bay → List ℕ
charger b = bytes 4 3 ++ bytes 12 0 ++ f64 b.max_power.0 ++ f64 (ratio 1200 1) ++ f64 (ratio 400 1) ++ cap_fields b.caps

-- id, profile id, connector count 0, SOC start and target, idle, arrival, longest wait, queue limit, fleet
abbrev pub vehicle : ℕ → Car → List ℕ
vehicle id c =
    bytes 4 id ++ bytes 4 2 ++ bytes 8 0 ++ f64 c.start ++ f64 c.target ++ f64 c.idle.0
    ++ bytes 8 c.arrival ++ bytes 8 c.wait ++ bytes 4 c.queue_limit ++ bytes 2 c.fleet

abbrev pub vehicles : ℕ → List Car → List ℕ
vehicles place [] = []
vehicles place (c ∷ cs) = block place (vehicle place c) ++ vehicles (suc place) cs

unfoldable pub plan : Bay → List ℕ
unfolding block ratio to_bits
plan b = block 1 (header b) ++ block 2 (profile b) ++ block 3 (charger b) ++ vehicles 4 b.cars

-- ---- the bay, and what the cases change of it

-- SOC 0.25 to 0.75, idle 120; by fleet, arrival, longest wait and queue limit
abbrev pub van : ℕ → ℕ → ℕ → ℕ → Car
van fleet arrival wait limit =
    record { start = percent 25; target = percent 75; idle = seconds 120; arrival = arrival; wait = wait; queue_limit = limit; fleet = fleet }

-- of no fleet
abbrev pub car : ℕ → ℕ → ℕ → Car
car = van 0

-- no site limit: eight zero bytes, which are those of 0 kW
abbrev pub unlimited : Limited
unlimited = record { mode = 0; limit = kw 0 }

-- battery 50, one point (0.5, 50), charger 50 kW; by the site limit, the caps of its leads, the queue places of its fleets and its cars
abbrev pub limited_bay : Limited → List Amperes → List ℕ → List Car → Bay
limited_bay limited caps places cars =
    record { limited = limited; battery = kwh 50; points = point (percent 50) (kw 50) ∷ []; max_power = kw 50; caps = caps; queue_places = places; cars = cars }

-- without a limit
abbrev pub fleet_bay : List Amperes → List ℕ → List Car → Bay
fleet_bay = limited_bay unlimited

-- without fleets
abbrev pub bay_of : List Amperes → List Car → Bay
bay_of caps cars = fleet_bay caps [] cars

-- arrival 100, wait 1,800, queue limit 10
abbrev pub bay : Bay
bay = bay_of [] (car 100 1800 10 ∷ [])

-- M2 to M5: a second car at 200, by its longest wait and its queue limit
abbrev pub second_car : ℕ → ℕ → Bay
second_car wait limit = bay_of [] (car 100 1800 10 ∷ car 200 wait limit ∷ [])

-- M10 and M11: start = target = 0.5, idle 1.5, arrival 0, wait 1; by the site limit
abbrev pub charged_car : Car
charged_car = record { start = percent 50; target = percent 50; idle = record { 0 = ratio 3 2 }; arrival = 0; wait = 1; queue_limit = 10; fleet = 0 }

abbrev pub at_target_under : Limited → Bay
at_target_under limited = limited_bay limited [] [] (charged_car ∷ [])

abbrev pub at_target : Bay
at_target = at_target_under unlimited

-- request 12: a second such car, which waits for the first to go
abbrev pub two_at_target : Bay
two_at_target = bay_of [] (charged_car ∷ record charged_car { wait = 10 } ∷ [])

-- request 10: a limit of 0.3 kW, by the header's byte 12
abbrev pub three_tenths : ℕ → Limited
three_tenths mode = record { mode = mode; limit = record { 0 = ratio 3 10 } }

-- M12: a battery charged at 1 kW, the point's power and the charger's, SOC 0 to 1
abbrev pub at_one_kw : Kwh → Bay
at_one_kw battery =
    record {
      limited = unlimited;
      battery = battery;
      points = point (percent 50) (kw 1) ∷ [];
      max_power = kw 1;
      caps = [];
      queue_places = [];
      cars = record { start = percent 0; target = percent 100; idle = seconds 120; arrival = 100; wait = 1800; queue_limit = 10; fleet = 0 } ∷ [];
    }

-- request 8: a cap on the lead with a Nacs plug, code 5, which the bay's charger and cars have
abbrev pub nacs_capped : Amperes → Bay
nacs_capped cap = bay_of (amperes 0 ∷ amperes 0 ∷ amperes 0 ∷ amperes 0 ∷ cap ∷ []) (car 100 1800 10 ∷ [])

-- request 9: behind the bay's car two vans of a fleet, at 200 and 300, with a queue limit of 10; by the fleet and the places of fleet 1
abbrev pub vans : ℕ → ℕ → Bay
vans fleet places = fleet_bay [] (places ∷ []) (car 100 1800 10 ∷ van fleet 200 1821 10 ∷ van fleet 300 1821 10 ∷ [])

-- request 7: the block of a car that comes behind the bay's one car, by its arrival
abbrev pub late_car : ℕ → List ℕ
late_car arrival = block 5 (vehicle 5 (car arrival 1800 10))

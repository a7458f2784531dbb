-- Refinement: the plan's vehicles as a list.
use Rattle.std.specs.Prelude.{List}
use Rattle.charger.specs.declared.vehicle.Vehicle.{Vehicle}
use Rattle.charger.specs.declared.vehicle_list.VehicleList.{VehicleList}

abbrev pub listed : VehicleList → List Vehicle
listed l = l.vehicles.items

pub mod OneCar

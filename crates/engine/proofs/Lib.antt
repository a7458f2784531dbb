pub mod Demanded

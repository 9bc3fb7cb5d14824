-- What a reader must believe of masses, in the order of RULES.
pub mod Rounding
pub mod Fuel
pub mod Gas
pub mod Units
pub mod Hour
pub mod Anode
pub mod Ledger
pub mod Figures

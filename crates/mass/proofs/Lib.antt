-- The argument, from arithmetic to the promises: laws on plain values, worked cases, uniqueness.
pub mod RoundingLaws
pub mod NearestLaws
pub mod UnitsLaws
pub mod PatternLaws
pub mod ReadingLaws
pub mod ProductLaws
pub mod MultipleLaws
pub mod HourLaws
pub mod FuelLaws
pub mod GasLaws
pub mod AnodeLaws
pub mod LedgerLaws
pub mod FiguresLaws
pub mod Cases
pub mod Unique

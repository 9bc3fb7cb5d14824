-- What the programs print and parse, as bytes.
pub mod Words
pub mod Page
pub mod Report
pub mod Refusal
pub mod Progress
pub mod Plants
pub mod Lines
pub mod Budget
pub mod Frame
-- What serves the code alone.
pub mod Extended

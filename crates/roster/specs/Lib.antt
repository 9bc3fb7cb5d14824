-- What a reader must believe of a list of plants: its lines, its plants and faults, what is wrong with a line,
-- the place in the round.
pub mod Bytes
pub mod Lines
pub mod Plants
pub mod Mistake
pub mod Right
pub mod Place
-- What serves the code alone.
pub mod Search

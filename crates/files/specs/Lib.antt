-- What a count of bytes read promises, what is put into a buffer, how a job stands in its files, how these
-- keep one book from passing for another, and what a look at a copy tells.
pub mod Got
pub mod Put
pub mod Ended
pub mod Kept
pub mod Guard
pub mod Look

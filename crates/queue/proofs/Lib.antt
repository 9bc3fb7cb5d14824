-- The argument, from slots to the promises: searches and slots, each call, sequences of calls, one
-- book's stay; then the promises, and uniqueness.
pub mod LowestLaws
pub mod SlotsLaws
pub mod ReplyLaws
pub mod BooksLaws
pub mod RoundLaws
pub mod CallsLaws
pub mod StayLaws
pub mod Demands
pub mod Unique

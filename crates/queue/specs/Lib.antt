-- What a reader must believe of a queue: its slots, its answers, its calls; then sequences of calls, and
-- one book's stay beside its own job.
pub mod Slots
pub mod Reply
pub mod Books
pub mod Round
pub mod Calls
pub mod Stay

-- What a reader must believe of a book and its records, in the order of RULES; then the hints and the
-- table, which the contracts of their functions need.
pub mod Bytes
pub mod Fields
pub mod Book
pub mod Right
pub mod Method
pub mod Entry
pub mod Repeat
pub mod Outcome
pub mod Record
pub mod Reason
pub mod Reader
pub mod Hints
pub mod Place
pub mod Table
-- What serves the code alone. Of these the contracts of its functions need a fuel's factors, the index and what
-- goes by it.
pub mod Listing
pub mod Key
pub mod Marks
pub mod Factors
pub mod Index
pub mod AtOnce
pub mod Sorting
pub mod Weighing
pub mod Co2
pub mod Bounds

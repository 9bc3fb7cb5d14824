-- The words in which every crate's definitions put a test.
pub mod Tests

-- The argument: laws on words and masses, what their caller reads, uniqueness.
pub mod FaceLaws
pub mod ToldLaws
pub mod Unique

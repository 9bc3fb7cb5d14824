-- The argument: laws on words and figures, what their caller reads, uniqueness.
pub mod FaceLaws
pub mod ToldLaws
pub mod Unique

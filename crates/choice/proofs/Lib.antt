-- Laws on tests: rows and choices gone through test by test, and proofs by cases.
pub mod TestsLaws
pub mod Splitting

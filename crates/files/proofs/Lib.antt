-- What is put into a buffer; how a job stands in its files, and a copy to its book; what the contracts leave no choice of.
pub mod PutLaws
pub mod KeptLaws
pub mod GuardLaws
pub mod LookLaws
pub mod Unique

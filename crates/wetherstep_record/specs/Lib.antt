-- What a reader must believe of the look at a record for C, beyond what `rules` says becomes of it.
pub mod Face
pub mod Told

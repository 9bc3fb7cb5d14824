-- What a reader must believe of the calls for C, beyond the job's replies.
pub mod Face
pub mod Told

-- What a reader must believe of a job, in the order of RULES: its state, its checkpoint, its calls.
pub mod State
pub mod Checkpoint
pub mod Reply
pub mod Wake
pub mod Report
pub mod History
-- What serves the code alone.
pub mod Bounds
pub mod Words
pub mod Shares
pub mod Leg
pub mod Admission

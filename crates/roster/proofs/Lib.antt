-- The argument, from bytes to the promise: lines, plants, the place in the round; then uniqueness.
pub mod BytesLaws
pub mod LinesLaws
pub mod PlantsLaws
pub mod MistakeLaws
pub mod VerdictLaws
pub mod ToldLaws
pub mod PlaceLaws
pub mod Demands
pub mod Unique

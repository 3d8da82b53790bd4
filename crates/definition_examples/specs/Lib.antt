pub mod UnitExamples
pub mod TypeExamples
pub mod ConstraintExamples
pub mod RefusalExamples
pub mod TapeTests

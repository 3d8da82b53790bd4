pub mod RefusalExamples

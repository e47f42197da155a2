pub mod ClassLaws
pub mod LexemeLaws
pub mod LexesLaws
pub mod NumberLaws
pub mod RunLaws
pub mod SpacedLaws
pub mod StepLaws

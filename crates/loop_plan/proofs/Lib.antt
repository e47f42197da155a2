pub mod FallLaws
pub mod LeadsLaws
pub mod LeastLaws
pub mod ListLaws
pub mod ReachedLaws
pub mod StepLaws
pub mod UsesLaws
pub mod WaitingLaws

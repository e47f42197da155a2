pub mod Descriptors
pub mod EqualityLaws
pub mod Labels
pub mod Laws

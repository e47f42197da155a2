pub mod AddLaws
pub mod ApartLaws
pub mod DisagreeLaws
pub mod DressedLaws
pub mod DressedSteps
pub mod DressedTrees
pub mod EnforcerLaws
mod EqualityRows
pub mod GoalLaws
pub mod JoinedTrees
pub mod PartsAdded
pub mod RootLaws
pub mod StandLaws
pub mod StopLaws
pub mod TermFitLaws
pub mod TermMadeLaws
pub mod TermStepLaws
pub mod TreeStepsLaws

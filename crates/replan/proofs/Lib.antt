pub mod CarryLaws
pub mod MatchLaws
pub mod RankLaws
pub mod RightLaws
pub mod StepLaws

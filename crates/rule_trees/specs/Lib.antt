pub mod Arities
pub mod MatchLaws
pub mod Matches
pub mod Steps
pub mod Trees
pub mod Views

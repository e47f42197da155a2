pub mod ScopeLaws
pub mod RunLaws
pub mod AskedLaws
pub mod MatchLaws
pub mod FindLaws
pub mod SideLaws
pub mod WholeLaws
pub mod MakeLaws
mod Rows

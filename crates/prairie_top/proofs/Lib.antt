mod BuiltLaws
mod ChainLaws
pub mod ExistsLaws
mod LawLemmas
mod OnlyLaws
mod ReadingLaws
mod TaskLaws
mod ToldLaws
mod TopLaws

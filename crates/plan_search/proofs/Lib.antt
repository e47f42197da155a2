mod EqualityLaws
pub mod ExistsLaws
mod FileLaws
mod HeightLaws
mod LeastLaws
mod RuleLaws
mod SearchLaws

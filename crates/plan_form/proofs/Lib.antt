pub mod AskedLaws
mod CostLaws
mod FoundLaws
pub mod ImplementLaws
mod PairLaws
pub mod PlanByLaws
mod SeenLaws
mod SideLaws
pub mod StepLaws
mod TextLaws

pub mod PlanText
pub mod Plans

pub mod FitLaws
pub mod PlaceLaws
mod Rows
pub mod SeenLaws
pub mod StepLaws

pub mod BoundLaws
pub mod LeastLaws
pub mod RightLaws
pub mod SearchLaws
pub mod SolveLaws
pub mod TableLaws

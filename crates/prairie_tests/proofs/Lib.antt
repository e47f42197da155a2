pub mod FragileLaws
pub mod InputLaws
pub mod ToyLaws
pub mod AgainLaws
pub mod BestLaws

pub mod SeenLaws
mod TypingRows
mod CostFormLaws
pub mod DescLaws
pub mod ReadLaws
pub mod RoleLaws
pub mod BuiltinLaws
pub mod KindLaws
pub mod NumberLaws

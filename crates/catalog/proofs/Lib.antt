mod FileLaws
mod PartLaws
mod RowLaws
mod RowOrder
mod SearchLaws
mod TableLaws
pub mod ShapeLaws

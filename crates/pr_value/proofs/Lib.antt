mod CappedRows
pub mod LogLaws
pub mod MemberLaws
pub mod OrderLaws
pub mod RepeatLaws
pub mod SearchLaws
pub mod SetLaws
mod SetRows
pub mod Shelf
pub mod SortLaws
mod TextRows
pub mod TreeLaws
pub mod ValueLaws
pub mod ZipLaws

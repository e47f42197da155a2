pub mod Contents
pub mod Entries
pub mod Keys
pub mod NameLaws
pub mod Reading
pub mod Shape
pub mod Tables

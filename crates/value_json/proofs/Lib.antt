pub mod EachLaws
pub mod ValueLaws

pub mod Built
pub mod Faultless
pub mod Query
pub mod Refusals
pub mod SeenParts

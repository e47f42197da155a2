pub mod Gaps
pub mod Laws
pub mod Lexemes
pub mod Lexes
pub mod Runs
pub mod Steps

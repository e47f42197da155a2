pub mod BestLists
pub mod Indexes
pub mod Lists
pub mod Picks
pub mod Showings

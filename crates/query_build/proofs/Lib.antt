pub mod BuildLaws
pub mod DescLaws
pub mod FaultLaws
pub mod PartLaws
pub mod SoundLaws

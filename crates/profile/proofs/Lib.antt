pub mod CheckLaws
pub mod OpeningLaws
pub mod ChainingLaws
pub mod PartLaws
pub mod MeetingLaws

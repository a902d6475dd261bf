pub mod LeadLaws
pub mod WordLaws
pub mod RoomLaws
pub mod ChoiceLaws

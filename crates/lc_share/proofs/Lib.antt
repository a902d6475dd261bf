pub mod NeedLaws
pub mod PrintedLaws
pub mod RangeLaws
pub mod SessionLaws
pub mod WordLaws

pub mod TextLaws
pub mod NumberLaws
pub mod KeyLaws
pub mod ArgumentLaws
pub mod CourseLaws
pub mod Opened

pub mod LineBack
pub mod LineLaws
pub mod LineRange
pub mod Opened
pub mod TextLaws

pub mod Outcomes
pub mod Parsing
pub mod ScanLaws
pub mod Scanning
pub mod Views

pub mod CodeLaws
pub mod TriedLaws
pub mod CoordinateTests
pub mod CoordinateLaws
pub mod CoordinateSteps
pub mod GeneratedLaws

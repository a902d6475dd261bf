pub mod GolayExamples
pub mod ExtendedGolayExamples
pub mod GolaySessionExamples
pub mod PlaneWeights

mod Fronts
pub mod SlotLaws
pub mod FolderLaws
mod FaultLaws
pub mod SeveralRecords
pub mod MemoryExamples
pub mod WatcherExamples
mod MemoryLaws

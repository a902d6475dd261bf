pub mod Boards
pub mod Callers
pub mod Counting
pub mod Machines
pub mod Moves
pub mod Rounds
pub mod Sentences
pub mod RoundExamples

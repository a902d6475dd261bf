pub mod Board
pub mod Counting
pub mod Machine
pub mod Round
pub mod Seats
pub mod Sentences
pub mod State

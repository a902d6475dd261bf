pub mod WorkLaws
pub mod GatherLaws
pub mod CrewLaws

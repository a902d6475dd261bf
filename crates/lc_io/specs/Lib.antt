pub mod Outside
pub mod Vaults
pub mod Folders
pub mod Watchers
pub mod Told
pub mod Memory
pub mod MemoryFolders

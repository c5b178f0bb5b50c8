pub mod Holding
pub mod Mean
pub mod Steps
pub mod Keeps
pub mod Answering

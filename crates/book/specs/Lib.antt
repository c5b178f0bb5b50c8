pub mod Numbers
pub mod Ops
pub mod Lines
pub mod Reading
pub mod Records
pub mod Books
pub mod Told
pub mod Loading

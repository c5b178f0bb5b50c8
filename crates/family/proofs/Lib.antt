pub mod Made
pub mod Inside

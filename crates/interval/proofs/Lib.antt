pub mod Sizes
pub mod OneEnd
pub mod Products
pub mod Quotients
pub mod Laws
pub mod Clear
pub mod Worked

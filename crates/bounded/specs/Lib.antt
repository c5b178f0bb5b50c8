pub mod Places
pub mod Lists

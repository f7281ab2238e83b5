-- What is copied of a value.
pub mod Copying

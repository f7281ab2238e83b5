-- What is programmed and erased to make a block free.
pub mod Clearing

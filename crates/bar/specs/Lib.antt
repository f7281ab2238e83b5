-- What a bar forbids.
pub mod Marks

-- Lemmas: a value that is copied block by block, and what the head of a record tells of a value.
pub mod Copies
pub mod Found

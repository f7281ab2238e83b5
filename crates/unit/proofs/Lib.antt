-- Lemmas: the steps of a start; reading; clearing groups of blocks.
pub mod Steps
pub mod Reading
pub mod Formatting

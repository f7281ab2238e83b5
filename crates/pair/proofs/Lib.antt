-- Lemmas: what a command of either flash is to the pair.
pub mod Seen

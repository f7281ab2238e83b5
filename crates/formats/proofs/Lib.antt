-- Lemmas: four bytes copied into a memory.
pub mod Pasted

-- Lemmas: the examples, computed.
pub mod Computed

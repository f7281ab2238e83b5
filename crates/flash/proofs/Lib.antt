-- Lemmas for the crates above: lists of commands, and flashes that stand over others.
pub mod Lists
pub mod Carried

-- What a pair of flashes is.
pub mod Pairs

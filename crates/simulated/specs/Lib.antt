-- What a simulated flash is, in the order in which to read it: what it holds and does, and what it says of itself.
pub mod Rehearsed
pub mod Flashes

-- What a part of a flash is.
pub mod Parts

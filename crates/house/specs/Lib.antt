-- What the program shows of a block.
pub mod Letters

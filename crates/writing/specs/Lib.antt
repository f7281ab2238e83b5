-- The lists that the blocks of a record and the bytes of a block are; the commands that write a record, and what they leave when they are done.
pub mod Listed
pub mod Filled
pub mod Writing
pub mod Law

-- Lemmas: bytes put into words are read back; words filled one by one; the record that is left; how many commands there are;
-- the bytes of a block from their parts; lists of commands tried one after another; the commands that are left; that none is refused.
pub mod Codec
pub mod Fill
pub mod Written
pub mod Counted
pub mod Parts
pub mod Joined
pub mod Steps
pub mod Taken

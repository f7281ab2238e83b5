-- What the table of the program shows of a word.
pub mod Readings

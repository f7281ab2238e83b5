-- What is found of the blocks of a flash: the newest record, the blocks in use, the state of every block, and all of it from one look.
pub mod Newest
pub mod Sets
pub mod Used
pub mod Entries
pub mod Overviews

-- What a flash is and promises, in the order in which to read it: faults, states, commands, rules, lists of commands.
pub mod Faults
pub mod State
pub mod Commands
pub mod Rules
pub mod Lists

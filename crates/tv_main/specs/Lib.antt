-- what a command line asks for
pub mod Asking

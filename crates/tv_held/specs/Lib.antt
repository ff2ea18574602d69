-- What stands at a handle
pub mod Holding
-- What events and commands make of it
pub mod Acting
-- What texts are asked for
pub mod Looking
-- What a call comes to, by what it asks for
pub mod Asking

-- What stands at a handle, by what was opened
mod HeldLemmas
-- What events and commands make of it
mod ActingLemmas
-- What a screen shows, as the bytes of its cells
mod LookingLemmas

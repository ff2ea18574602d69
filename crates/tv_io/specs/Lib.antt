-- What a device took and keeps back
pub mod Device
-- What a pen puts
pub mod Pen
-- A text shown in a room
pub mod Rooms
-- What a writer takes, cuts and fails at
pub mod Writer
-- What a reader gives
pub mod Reader
-- What a reader over a file gives
pub mod FileReader
-- Why the bytes of a file aren't there, by the kind of the system's error
pub mod Kinds
-- What reading a text comes to
pub mod Reading

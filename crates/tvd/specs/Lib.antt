-- What the library tells of two files in memory
pub mod Telling
-- What a handle stands for, and what each call of it does
pub mod Doors

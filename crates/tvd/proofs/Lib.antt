-- From what a call of the program comes to, to what the library tells
mod TellingLemmas

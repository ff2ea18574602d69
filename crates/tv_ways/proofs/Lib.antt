pub mod CutLemmas
mod IdleLemmas
mod RunningLemmas
mod ScriptLemmas
mod SpelledLemmas
mod WordingLemmas

pub mod Transcript
pub mod Reports
pub mod Transcribed
pub mod Inner

pub mod Dialogue
pub mod Faults
pub mod Lines
pub mod Rehearsal
pub mod Spelling

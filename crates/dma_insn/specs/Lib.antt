pub mod Grammar
pub mod Spelling
pub mod Decoding
pub mod Chip
pub mod ControlWord
pub mod AssemblyText
pub mod LineReading
pub mod Disassembly

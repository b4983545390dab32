pub mod Gaps
pub mod Kinds
pub mod Tokens
pub mod Steps
pub mod Lexemes
pub mod Answers
pub mod Single
pub mod Faults

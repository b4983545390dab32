pub mod Places
pub mod Bytes
pub mod Laid
pub mod Arranged
pub mod Whole

pub mod Opening
pub mod Reading
pub mod Rising
pub mod Finding

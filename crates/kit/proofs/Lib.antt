pub mod AnyNumber
mod Joining
mod Widths

pub mod Samples
pub mod SampleLaws

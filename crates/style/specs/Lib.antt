pub mod Indents
pub mod Results

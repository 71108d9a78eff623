pub mod Cutting
pub mod Piecing
pub mod Counting
pub mod Wording
pub mod Saying
pub mod Ordering

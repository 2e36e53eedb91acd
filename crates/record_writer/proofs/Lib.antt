pub mod Putting
pub mod Answering
pub mod ReadBack
pub mod LongPayload

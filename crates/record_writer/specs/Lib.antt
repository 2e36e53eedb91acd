pub mod Writing
pub mod LongPayload

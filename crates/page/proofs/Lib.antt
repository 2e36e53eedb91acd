pub mod Widths
pub mod Head
pub mod Answer
pub mod Given
pub mod Twos
pub mod RowBytes
pub mod RoundTrip
pub mod Printed

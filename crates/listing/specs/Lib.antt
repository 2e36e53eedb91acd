pub mod Listing
pub mod Offers
pub mod Promises

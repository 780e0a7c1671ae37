-- What a reader believes: the bytes of a listing.
pub mod Listing
-- What proofs need.
pub mod Placing

pub mod TrueOffer
pub mod Claim
pub mod RestrictedClaim

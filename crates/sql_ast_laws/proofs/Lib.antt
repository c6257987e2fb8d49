mod Checks
pub mod Yields
pub mod FineTokens
mod SaidNames

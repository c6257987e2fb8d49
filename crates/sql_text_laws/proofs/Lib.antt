pub mod YieldedParts
pub mod YieldedActions
pub mod ReadSpellable

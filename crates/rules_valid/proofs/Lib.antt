pub mod Objects
pub mod Readings
pub mod Gone
pub mod Schemas
pub mod Drops
pub mod Created
pub mod ByClass
pub mod Fits
mod Resolved
mod MadeNamed
pub mod Tables
pub mod Spaces
mod RenamedLists
mod RenamedNames
mod RenamedPlaces
mod RenamedBehind
pub mod RenamedSound
mod RenamedMoved
mod RenamedTables
mod RenamedSeen
mod RenamedPair
mod RenamedNamed
pub mod RenamedAll
pub mod Sessions
pub mod Likes
pub mod Emptied
mod AlteredPlaces
mod AlteredStart
mod AlteredBuilt
mod AlteredNamed
mod AlteredNames
pub mod Altered

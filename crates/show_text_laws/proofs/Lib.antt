pub mod TextWritten
pub mod Touching
pub mod TouchingTable
pub mod SaidColumns
pub mod SaidKeys
pub mod SaidTable
pub mod Named
pub mod ReadTable

mod Databases
mod Tables
mod Columns
mod Keys
mod Actions
mod Views
mod Refused
mod Long

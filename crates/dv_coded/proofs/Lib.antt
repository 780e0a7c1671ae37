pub mod Lists
pub mod Machines
pub mod Members
pub mod Named
pub mod Standing
pub mod Starts

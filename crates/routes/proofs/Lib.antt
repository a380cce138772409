-- The demands, from the laws of searches, builds and queries.
pub mod Decimals
pub mod Rooms
pub mod Records
pub mod ThirdDemand
pub mod Demands

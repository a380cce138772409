-- The demands, stated of the definitions.
pub mod Demand
pub mod Demands
pub mod Unbuilt
pub mod Records

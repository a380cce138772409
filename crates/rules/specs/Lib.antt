-- Document 01 as definitions, in its order. Each is total and computes; contracts and proofs cite them. Then the first demand of
-- them, and cases.
pub mod Numbers
pub mod Lists
pub mod Text
pub mod Columns
pub mod TableRules
pub mod Refusals
pub mod Refused
pub mod Accepted
pub mod Heap
pub mod Graph
pub mod Search
pub mod Build
pub mod Unpack
pub mod Query
pub mod Program
pub mod FirstDemand
pub mod Computing
pub mod Bench
pub mod Edges
pub mod SearchCases
pub mod BuildCases
pub mod QueryCases
pub mod ProgramCases

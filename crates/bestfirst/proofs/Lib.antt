pub mod Runs
pub mod States
pub mod Frontier
pub mod Steps
pub mod Ends
pub mod Traces
pub mod Look
pub mod Tables

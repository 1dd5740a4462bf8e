pub mod Phases
pub mod Bindings

pub mod Running
pub mod Answering
pub mod Whole
pub mod Numbers
pub mod Bound
pub mod Demands

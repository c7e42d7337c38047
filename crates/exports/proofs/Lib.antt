pub mod Answers
pub mod After
pub mod Sizes
pub mod Numbers
pub mod Values

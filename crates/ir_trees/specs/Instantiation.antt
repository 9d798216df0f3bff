pub mod Folding
pub mod Folds
pub mod Opening
pub mod Owned
pub mod Results

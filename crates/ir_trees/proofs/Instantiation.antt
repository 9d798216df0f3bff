pub mod Folding
pub mod Quiet
pub mod SubstLaws

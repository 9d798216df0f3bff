pub mod Putting
pub mod Solving
pub mod Taking
pub mod Carrying
pub mod Closing
pub mod Further
pub mod Solutions
pub mod EquatingLaws

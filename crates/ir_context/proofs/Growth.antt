pub mod One

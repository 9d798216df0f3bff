pub mod TreeCode

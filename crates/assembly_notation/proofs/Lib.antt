pub mod Giving
mod Lacking
mod Lines
mod Listed
mod Printed
mod Spelling
mod Tables

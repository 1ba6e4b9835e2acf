pub mod Depends

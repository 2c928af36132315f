pub mod Hotlist

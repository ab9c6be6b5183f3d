mod Done
mod Performed

mod Looks
mod Zipped

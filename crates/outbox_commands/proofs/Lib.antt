mod Current
mod Looks
mod Opened
mod Performed
mod Telling
mod Turns

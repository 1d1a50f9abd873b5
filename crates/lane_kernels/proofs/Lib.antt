mod Steps
mod Double
mod Nibbles
mod Masks

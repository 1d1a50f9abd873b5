pub mod Classing

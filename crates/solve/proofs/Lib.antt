pub mod Colouring

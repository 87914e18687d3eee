pub mod Accents

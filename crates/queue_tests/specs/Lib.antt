pub mod Lenses

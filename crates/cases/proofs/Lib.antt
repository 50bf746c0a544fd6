mod Sample
mod Calls

pub mod Horner
pub mod AppendixA

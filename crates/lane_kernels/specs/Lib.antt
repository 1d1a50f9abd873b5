pub mod Formulas
pub mod Tables

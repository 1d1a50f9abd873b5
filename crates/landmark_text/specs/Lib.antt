pub mod Names
pub mod KindLaws
pub mod DropLaws
pub mod WordLaws

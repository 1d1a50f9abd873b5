pub mod Appended
pub mod RankByRank

pub mod RaceLemmas
pub mod SomeTurns

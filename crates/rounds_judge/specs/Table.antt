pub mod Keys
pub mod Verdicts
pub mod GoalTable
pub mod TableSettling
pub mod TableGranted
pub mod TableJudge
pub mod Rounds
pub mod Decided

pub mod ProjectionGoals
pub mod ProjectionSettling
pub mod ProjectionNormalizing
pub mod ProjectionGranted
pub mod ProjectionJudge

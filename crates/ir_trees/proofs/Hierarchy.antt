pub mod ElaborationCases

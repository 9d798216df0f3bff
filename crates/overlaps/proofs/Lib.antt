mod OpenedImpls
mod Arguments
pub mod CommonInstances
mod Sides
pub mod Readings
mod ReadSides
mod ReadSolutions
mod Unsolved
mod FreshSides
mod ListedHeaders
mod ArgumentRows
mod Headers
mod Staying
mod PlainGoals
pub mod Refusing
mod Pairs
mod PureFolder
mod Instances
mod Listed
mod Stopping
pub mod Symmetric
mod AskedClauses
mod AskedPairs
mod PartTraits
mod Uncertainty
mod Specialized
mod Typed
mod Negated
mod Jointly
mod JointNormals
mod JointPairs
mod OpenClauses
pub mod Universes

pub mod Contents
pub mod TableFields
pub mod TableRules
pub mod Preparing
pub mod Holds
pub mod Views
pub mod KeptValues
pub mod ReadBack
pub mod ReadKinds
pub mod ReadVectors
pub mod ReadUnions
pub mod ReadPlain
pub mod Accessors
pub mod ItemAccessors
pub mod Roots
pub mod Unions
pub mod UnionAccessors
pub mod Variants
pub mod lemmas
pub mod inner
pub mod Steps
pub mod Texts
pub mod Slots
pub mod Runs
pub mod Kinds
pub mod TableChecks
pub mod Replays
pub mod FinishHolds
pub mod Streams
pub mod Once
pub mod SameTrees
pub mod FieldLines
pub mod UnionsBack
pub mod Creating
pub mod SizedRoots
pub mod Printed
pub use Rattle.planus_back.specs as back
pub use Rattle.planus_read.specs as read
pub use Rattle.planus_view.specs as view
pub use Rattle.planus_unions.specs as unions
pub use Rattle.planus_write.specs as write
pub use Rattle.planus_fields.specs as fields

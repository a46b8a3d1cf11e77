-- The words of contracts and definitions of printed records, passed on from where they are defined.
pub use Rattle.planus_owned.specs.Records.{Owning, IsMade, text, text_if, plain, plain_if, plain_or}
pub use Rattle.planus_owned.specs.Records.{table, table_if, OwnsTable, OwnsTableIf}
pub use Rattle.planus_owned.specs.Records.Owning.{too_deep, record_of}

pub mod OwnQualifiers

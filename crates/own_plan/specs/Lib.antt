pub mod OwnAnswer

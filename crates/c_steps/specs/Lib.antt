pub mod RecordSteps

pub mod WordSteps

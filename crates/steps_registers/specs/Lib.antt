pub mod RegisterSteps

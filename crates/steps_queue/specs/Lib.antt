pub mod QueueSteps

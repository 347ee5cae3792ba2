pub mod PortSteps

pub mod ChannelSteps

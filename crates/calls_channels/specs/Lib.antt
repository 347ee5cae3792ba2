pub mod ChannelCalls

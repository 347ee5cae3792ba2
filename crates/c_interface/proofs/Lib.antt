mod Blocking
mod Flushing
mod Mutes
mod Ports
mod Sampling

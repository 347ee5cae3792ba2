pub mod Flushed

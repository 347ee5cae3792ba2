pub mod VoiceSteps

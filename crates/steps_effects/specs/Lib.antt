pub mod EffectSteps

-- `drums::cut` meets its contract: the library's conversion is Rust's `as u32`, and so the cut is by `as-rust`. Assumes nothing.
use mathlib.Core.Path.{sym, ap, ◌∙◌}
use Prim.Native.Nat.{ℕ, min}
use Rattle.drums.proofs.Laws.{as-rust}
use Rattle.drums.proofs.cut.Goals as goal

pub returns : goal.returns
returns c = c.min.ensures ∙ ap (λ (n : ℕ). min n 10922) c.saturating_f32_to_u32.ensures ∙ sym (as-rust c.args.x)

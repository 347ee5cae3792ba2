-- Writes with the IRQ flag off may be settled after the last: the laws that a caller leans on. Assumes nothing.
use mathlib.Core.Bool.{false}
use mathlib.Core.List.{List}
use mathlib.Core.Path.{◌≡◌, refl, ap, ◌∙◌}
use Prim.Native.Nat.{ℕ, ◌≤◌, ◌<◌}
use lib.ListN.{set}
use Rattle.laws.proofs.Tests.{on-le, on-gt}
use Rattle.registers.specs.declared.Voice.{Voice}
use Rattle.registers.specs.Registers.{masked, apply_register}
use Rattle.settling.specs.declared.Settings.{Settings}
use Rattle.stored_bytes.specs.Marks.{marked}
use Rattle.settling.specs.Settling.{settings_of, settled_of, generators_with, with_settings}
use Rattle.settling.proofs.OneMore.{settled_on}
use Rattle.settling.proofs.OneWrite.{write-settled}

-- nothing is written yet
pub stored-none : (v : Voice) → with_settings v.registers (settled_of v.registers 0 (settings_of v.generators v.gates)) v ≡ v
unfolding settled_of generators_with with_settings
stored-none v = refl

-- a write more: its byte stored and its register marked
pub stored_on : (bytes : List ℕ) (marks : ℕ) (s : Settings) (v : Voice) (register value : ℕ) → v.irq ≡ false → register < 14
    → let after = set bytes register (masked register value) in
    with_settings after (settled_of after (marked register marks) s) v ≡ apply_register register value (with_settings bytes (settled_of bytes marks s) v)
unfolding apply_register with_settings
stored_on bytes marks s v register value off h =
    let after = set bytes register (masked register value) in
    on-gt 14 register _ _ _ h
    (ap (λ (x : Settings). with_settings after x v) (settled_on bytes register (masked register value) marks s)
    ∙ write-settled after (settled_of bytes marks s) v off register h)

-- Writes to registers 14 and up change nothing.
pub past-registers : (register value : ℕ) (v : Voice) → 14 ≤ register → v ≡ apply_register register value v
unfolding apply_register
past-registers register value v h = on-le 14 register _ _ _ h refl

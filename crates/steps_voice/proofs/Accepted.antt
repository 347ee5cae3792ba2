-- A register write that is accepted leaves the voice that it makes, and reports what it changed; one that is refused, neither. Assumes nothing.
use mathlib.Core.Bool.{Bool, false, true, not}
use mathlib.Core.List.{List}
use mathlib.Core.Path.{◌≡◌, refl, sym, ap, ◌∙◌}
use Prim.Native.Nat.{ℕ, ◌%◌}
use native.Mathlib.Omega.{arith}
use lib.ListN.{get_or}
use Rattle.laws.proofs.Tests.{on-false, on-no, on-true, on-yes}
use Rattle.refusals.specs.Numbers.{accepted, out_of_range}
use Rattle.registers.specs.declared.Voice.{Voice}
use Rattle.registers.specs.Registers.{apply_register}
use Rattle.registers.specs.Writes.{loaded, load_writes, registers_from}
use Rattle.write_effects.specs.Effects.{changed_by, changes_in, differences, restarted_by, restarts_in}
use Rattle.write_effects.proofs.Laws.{bytes_left_lem, each-once}
use Rattle.answers.specs.declared.Wrote.{Wrote}
use Rattle.answers.specs.Reports.{counts, wrote}
use Rattle.steps_registers.specs.RegisterSteps.{bit1_clear}
use Rattle.steps_voice.specs.VoiceSteps.{port_written, voiced, voiced_all}

-- the answer to an accepted write
abbrev pub reports : ℕ → ℕ → Voice → Wrote
reports register value voice = wrote accepted (changed_by register value voice.registers) (restarted_by register)

pub voiced-yes : (ok : Bool) (register value : ℕ) (voice : Voice) {made : Voice} {answer : Wrote} → not ok ≡ false → answer ≡ reports register value voice
    → made ≡ apply_register register value voice → record { voice = made; answer = answer } ≡ voiced ok register value voice
unfolding voiced
voiced-yes ok register value voice n a e = on-yes ok ok _ _ _ refl n (λ i. record { voice = e i; answer = a i })

pub voiced-no : (ok : Bool) (register value : ℕ) (voice : Voice) {answer : Wrote} → not ok ≡ true → answer ≡ wrote out_of_range false false
    → record { voice = voice; answer = answer } ≡ voiced ok register value voice
unfolding voiced
voiced-no ok register value voice n a = on-no ok ok _ _ _ refl n (λ i. record { voice = voice; answer = a i })

-- no register is written twice, and one of them is 13
load-changes : (bytes : List ℕ) (voice : Voice) → differences 14 0 voice.registers (loaded bytes voice).registers ≡ changes_in (load_writes bytes) voice.registers
load-changes bytes voice =
    ap (differences 14 0 voice.registers) (bytes_left_lem (load_writes bytes) voice) ∙ sym (each-once (λ register. get_or bytes register 0) 14 0 voice.registers (omega arith))

load-restarts : (bytes : List ℕ) → 1 ≡ restarts_in (load_writes bytes)
unfolding restarts_in registers_from
load-restarts bytes = refl

pub loaded-yes : (ok : Bool) (bytes : List ℕ) (voice : Voice) {made : Voice} {changed : ℕ} → not ok ≡ false → made ≡ loaded bytes voice
    → changed ≡ differences 14 0 voice.registers made.registers → record { voice = made; answer = counts accepted changed 1 } ≡ voiced_all ok bytes voice
unfolding voiced_all
loaded-yes ok bytes voice {made} {changed} n e d =
    let c : changed ≡ changes_in (load_writes bytes) voice.registers = (rw e at d) ∙ load-changes bytes voice in
    on-yes ok ok _ _ _ refl n (λ i. record { voice = e i; answer = counts accepted (c i) (load-restarts bytes i) })

-- a write by a port: bit 1 clear selects, set it writes
module _ (ok bit : Bool) (voice : Voice) (selected port value : ℕ) where
  pub written-no : {answer : Wrote} → not ok ≡ true → answer ≡ wrote out_of_range false false
      → record { voice = voice; selected = selected; answer = answer } ≡ port_written ok voice selected port value
  unfolding port_written
  written-no n a = on-no ok ok _ _ _ refl n (λ i. record { voice = voice; selected = selected; answer = a i })

  pub selects-yes : {answer : Wrote} → not ok ≡ false → bit ≡ bit1_clear port → bit ≡ true → answer ≡ wrote accepted false false
      → record { voice = voice; selected = value % 16; answer = answer } ≡ port_written ok voice selected port value
  unfolding port_written
  selects-yes n e t a = on-yes ok ok _ _ _ refl n (on-true (bit1_clear port) _ _ _ (sym e ∙ t) (λ i. record { voice = voice; selected = value % 16; answer = a i }))

  pub written-yes : {made : Voice} {answer : Wrote} → not ok ≡ false → bit ≡ bit1_clear port → bit ≡ false → answer ≡ reports selected value voice
      → made ≡ apply_register selected value voice → record { voice = made; selected = selected; answer = answer } ≡ port_written ok voice selected port value
  unfolding port_written
  written-yes n e f a h = on-yes ok ok _ _ _ refl n (on-false (bit1_clear port) _ _ _ (sym e ∙ f) (λ i. record { voice = h i; selected = selected; answer = a i }))

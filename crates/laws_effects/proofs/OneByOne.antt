-- Counts over a list are the reports that say yes: each write finds the bytes that those ahead of it left. Assumes nothing.
use mathlib.Core.Bool.{Bool, true}
use mathlib.Core.List.{List, [], ◌∷◌}
use mathlib.Core.Path.{◌≡◌, refl, sym, ap, ap₂, ◌∙◌}
use Prim.Native.Nat.{ℕ, ◌+◌}
use Rattle.registers.specs.Writes.{RegisterWrite}
use Rattle.write_effects.specs.Effects.{bytes_after, changed_by, changes_in, one, restarted_by, restarts_in}
use Rattle.write_effects.proofs.Laws.{applied-bytes}
use Rattle.chip.specs.declared.Chip.{Chip}
use Rattle.chip.specs.Range.{chip_in}
use Rattle.chip.proofs.InRange.{InRange, passes}
use Rattle.chip_parts.specs.Parts.{voice_of}
use Rattle.answers.specs.Reports.{bytes_of}
use Rattle.calls_registers.specs.Stored.{write_register, wrote_register}
use Rattle.laws_in_range.proofs.CallsInRange.{write-register-kept}
use Rattle.laws_histories.specs.Histories.{OfItsType}
use Rattle.laws_effects.specs.Claims.{OneByOne, reported}
use Rattle.laws_effects.proofs.Parts.{in-range}

-- an accepted write
module _ (register value : ℕ) (c : Chip) (t : chip_in c ≡ true) where
  says : (wrote_register register value c).answer.changed ≡ changed_by register value (bytes_of c)
  unfolding write_register wrote_register
  says = rw t

  restarts : (wrote_register register value c).answer.restarted ≡ restarted_by register
  unfolding write_register wrote_register
  restarts = rw t

  leaves : bytes_of (wrote_register register value c).chip ≡ bytes_after register value (bytes_of c)
  unfolding write_register wrote_register
  leaves = rw t (applied-bytes register value (voice_of c))

kept : (register value : ℕ) {c : Chip} → InRange c → InRange (wrote_register register value c).chip
unfolding wrote_register
kept register value h = write-register-kept h register value

changes : (writes : List RegisterWrite) (c : Chip) → InRange c → changes_in writes (bytes_of c) ≡ reported (λ a. a.changed) writes c
unfolding changes_in
changes [] c h = refl
changes (w ∷ writes) c h =
    let d = (wrote_register w.register w.value c).chip in
    ap₂ (λ (b : Bool) (n : ℕ). one b + n) (sym (says w.register w.value c (passes h)))
    (ap (changes_in writes) (sym (leaves w.register w.value c (passes h))) ∙ changes writes d (kept w.register w.value h))

counts : (writes : List RegisterWrite) (c : Chip) → InRange c → restarts_in writes ≡ reported (λ a. a.restarted) writes c
unfolding restarts_in
counts [] c h = refl
counts (w ∷ writes) c h =
    let d = (wrote_register w.register w.value c).chip in
    ap₂ (λ (b : Bool) (n : ℕ). one b + n) (sym (restarts w.register w.value c (passes h)))
    (counts writes d (kept w.register w.value h))

pub one_by_one : (writes : List RegisterWrite) (c : Chip) → OfItsType c → chip_in c ≡ true → OneByOne writes c
one_by_one writes c o t = let h = in-range c o t in record { changed = changes writes c h; restarted = counts writes c h }

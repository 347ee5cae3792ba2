-- Laws of what is due before a word: what passing it keeps, and that nothing more is due then. Assumes nothing.
use mathlib.Core.Bool.{cond}
use mathlib.Core.List.{List, [], ◌∷◌}
use mathlib.Core.Logic.{◌⊎◌, inl}
use mathlib.Core.Path.{◌≡◌, refl, sym, ◌∙◌}
use Prim.Native.Nat.{ℕ, ◌≤◌, ◌<◌}
use native.Mathlib.Omega.{arith}
use lib.Dec.{eqb}
use lib.ListN.{length}
use Rattle.refusals.specs.Numbers.{accepted, queue_full, out_of_range}
use Rattle.laws.proofs.Tests.{by_order, by-same, on-gt, tests}
use Rattle.chip.specs.declared.Chip.{Chip}
use Rattle.chip.specs.Range.{chip_in}
use Rattle.chip.proofs.InRange.{InRange, passes}
use Rattle.clocking_word.specs.Word.{end_of}
use Rattle.answers.specs.Answers.{answered}
use Rattle.calls_cycles.specs.Cycles.{set_cpu_cycle}
use Rattle.calls_ports.specs.Ports.{write_port}
use Rattle.bus.specs.Passing.{pass_write}
use Rattle.bus.proofs.Laws.{pass-in-range}
use Rattle.bus_writes.specs.declared.BusWrite.{BusWrite}
use Rattle.laws_in_range.proofs.Parts.{chosen-kept}
use Rattle.laws_in_range.proofs.CallsInRange.{set-cpu-cycle-kept, write-port-kept}
use Rattle.capture_course.specs.Course.{Passed, pass_due}
use Rattle.capture_course.specs.Claims.{NoneBy}

-- a chip in range from another, with the same start and clocks: so the next word's end is the same
pub record Kept (c d : Chip) : Type 0 where
  pub range : InRange d
  pub start : d.core.start ≡ c.core.start
  pub clocks : d.core.clocks ≡ c.core.clocks

pub kept-end : {c d : Chip} → Kept c d → end_of d.core ≡ end_of c.core
kept-end k = rw (k.start, k.clocks)

kept_same : {c : Chip} → InRange c → Kept c c
kept_same h = record { range = h; start = refl; clocks = refl }

kept_then : {c d e : Chip} → Kept c d → Kept d e → Kept c e
kept_then k l = record { range = l.range; start = l.start ∙ k.start; clocks = l.clocks ∙ k.clocks }

-- a write
write-range : (w : BusWrite) (c : Chip) → InRange c → InRange (pass_write w c).chip
unfolding pass_write
write-range w c h =
    let p = write_port w.port w.value (set_cpu_cycle w.stamp c).chip in
    chosen-kept (chip_in c) (cond (eqb p.no accepted) p (answered p.no c)) (answered out_of_range c)
    (chosen-kept (eqb p.no accepted) p (answered p.no c) (write-port-kept (set-cpu-cycle-kept h w.stamp) w.port w.value) h)
    h

pub write_kept : (w : BusWrite) (c : Chip) → InRange c → Kept c (pass_write w c).chip
write_kept w c h =
    let p = pass-in-range w c (passes h) in
    record { range = write-range w c h; start = p.start; clocks = p.clocks }

-- the next write: it is passed, refused, or not yet due
module _ (end : ℕ) (w : BusWrite) (ws : List BusWrite) (c : Chip) (soon : w.stamp ≤ end) where
  pub due-passes : (pass_write w c).no ≡ accepted → pass_due end (w ∷ ws) c ≡ pass_due end ws (pass_write w c).chip
  unfolding pass_due
  due-passes e =
      let due : pass_due end ws (pass_write w c).chip ≡ pass_due end (w ∷ ws) c = search tests in
      sym due

  pub due-refused : ((pass_write w c).no ≡ accepted → ⊥) → pass_due end (w ∷ ws) c ≡ record { chip = c; rest = w ∷ ws; no = (pass_write w c).no }
  unfolding pass_due
  due-refused n =
      let stops : ◌≡◌ {A = Passed} (record { chip = c; rest = w ∷ ws; no = (pass_write w c).no }) (pass_due end (w ∷ ws) c) = search tests in
      sym stops

pub due-none : (end : ℕ) (ws : List BusWrite) (c : Chip) → NoneBy end ws → pass_due end ws c ≡ record { chip = c; rest = ws; no = accepted }
unfolding pass_due
due-none end [] c h = refl
due-none end (w ∷ ws) c h = sym (on-gt _ _ _ _ _ h refl)

-- what holds of what is due, by the three
pub by-due : (P : Passed → Type 0) (end : ℕ) (w : BusWrite) (ws : List BusWrite) (c : Chip)
    → (w.stamp ≤ end → (pass_write w c).no ≡ accepted → P (pass_due end ws (pass_write w c).chip))
    → (w.stamp ≤ end → ((pass_write w c).no ≡ accepted → ⊥) → P (record { chip = c; rest = w ∷ ws; no = (pass_write w c).no }))
    → (end < w.stamp → P (record { chip = c; rest = w ∷ ws; no = accepted }))
    → P (pass_due end (w ∷ ws) c)
by-due P end w ws c f g k =
    by_order w.stamp end
    (λ soon. by-same (pass_write w c).no accepted (λ e. rw (due-passes end w ws c soon e) (f soon e)) (λ n. rw (due-refused end w ws c soon n) (g soon n)))
    (λ late. rw (due-none end (w ∷ ws) c late) (k late))

-- the chip is in range as it was, and the number is 0 or 4
pub record DueKept (c : Chip) (p : Passed) : Type 0 where
  pub kept : Kept c p.chip
  pub number : (p.no ≡ accepted) ⊎ (p.no ≡ queue_full)

same_kept : (c : Chip) (ws : List BusWrite) → InRange c → DueKept c (record { chip = c; rest = ws; no = accepted })
same_kept c ws h = record { kept = kept_same h; number = inl refl }

pub due-kept : (end : ℕ) (ws : List BusWrite) (c : Chip) → InRange c → DueKept c (pass_due end ws c)
due-kept end [] c h = rw (due-none end [] c tt) (same_kept c [] h)
due-kept end (w ∷ ws) c h =
    by-due (DueKept c) end w ws c
    (λ _ _. let k = write_kept w c h in
    let more = due-kept end ws (pass_write w c).chip k.range in
    record { kept = kept_then k more.kept; number = more.number })
    (λ _ _. record { kept = kept_same h; number = (pass-in-range w c (passes h)).number })
    (λ _. same_kept c (w ∷ ws) h)

-- once what is due has been passed, nothing more is
abbrev Later : ℕ → Passed → Type 0
Later end p = p.no ≡ accepted → NoneBy end p.rest

pub due-later : (end : ℕ) (ws : List BusWrite) (c : Chip) → (pass_due end ws c).no ≡ accepted → NoneBy end (pass_due end ws c).rest
due-later end [] c = rw (due-none end [] c tt) (λ _. tt)
due-later end (w ∷ ws) c =
    by-due (Later end) end w ws c (λ _ _. due-later end ws (pass_write w c).chip) (λ _ n z. absurd (n z)) (λ late _. late)

pub due-again : (end : ℕ) (ws : List BusWrite) (c : Chip) → (pass_due end ws c).no ≡ accepted
    → pass_due end (pass_due end ws c).rest (pass_due end ws c).chip ≡ record { chip = (pass_due end ws c).chip; rest = (pass_due end ws c).rest; no = accepted }
due-again end ws c e = due-none end (pass_due end ws c).rest (pass_due end ws c).chip (due-later end ws c e)

-- what is left is no more than there was
pub due-rest : (end : ℕ) (ws : List BusWrite) (c : Chip) → length (pass_due end ws c).rest ≤ length ws
due-rest end [] c = rw (due-none end [] c tt) (omega arith)
due-rest end (w ∷ ws) c =
    by-due (λ (p : Passed). length p.rest ≤ length (w ∷ ws)) end w ws c
    (λ _ _. let more = due-rest end ws (pass_write w c).chip in omega (arith, more))
    (λ _ _. omega arith)
    (λ _. omega arith)

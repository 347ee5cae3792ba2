-- Laws of passing a write: 22 is met by both calls alike; of a chip in range a write is taken, or refused by 4 and nothing changes. Assumes
-- nothing.
use mathlib.Core.Bool.{Bool, true, false, cond}
use mathlib.Core.Logic.{◌⊎◌, inl, inr}
use mathlib.Core.Path.{◌≡◌, refl, ap, ◌∙◌}
use Prim.Native.Nat.{◌%◌, ◌≤◌}
use lib.Dec.{leb, eqb}
use Rattle.refusals.specs.Numbers.{accepted, queue_full}
use Rattle.laws.proofs.Tests.{by_cond, by_le, on-eq, on-ne}
use Rattle.queue.specs.declared.Queue.{Queue}
use Rattle.queue.specs.Waiting.{push, pushed}
use Rattle.chip.specs.declared.Chip.{Chip}
use Rattle.chip.specs.Range.{chip_in, core_in}
use Rattle.chip_parts.specs.Parts.{with_queue, with_selection, with_times}
use Rattle.answers.specs.Answers.{answered}
use Rattle.answers.specs.declared.Answered.{Answered}
use Rattle.calls_cycles.specs.Cycles.{set_cpu_cycle}
use Rattle.calls_ports.specs.Ports.{bit1_clear, queued, stamped, write_port}
use Rattle.bus_writes.specs.declared.BusWrite.{BusWrite}
use Rattle.bus.specs.Passing.{pass_write}

-- what the port answers once the stamp is set, and the chip as it was where that is a refusal
abbrev ported : BusWrite → Chip → Answered
ported w c = write_port w.port w.value (set_cpu_cycle w.stamp c).chip

abbrev or_as_it_was : Chip → Answered → Answered
or_as_it_was c p = cond (eqb p.no accepted) p (answered p.no c)

-- a record out of range is refused by the port too
passes-ported : (w : BusWrite) (c : Chip) → or_as_it_was c (ported w c) ≡ pass_write w c
unfolding pass_write set_cpu_cycle write_port
passes-ported w c =
    by_cond (λ (a : Answered). or_as_it_was c (ported w c) ≡ a) (chip_in c) _ _ (λ _. refl) (λ out. rw (out, out))

-- the two returns of `pass_write`
module _ (w : BusWrite) (c : Chip) {s p : Answered} (set : s ≡ set_cpu_cycle w.stamp c) (put : p ≡ write_port w.port w.value s.chip) where
  is-ported : p ≡ ported w c
  is-ported = put ∙ ap (λ (a : Answered). write_port w.port w.value a.chip) set

  pub refused-passes : {r : Answered} → r ≡ answered p.no c → (p.no ≡ accepted → ⊥) → r ≡ pass_write w c
  refused-passes e n = e ∙ on-ne p.no accepted _ p _ n refl ∙ ap (or_as_it_was c) is-ported ∙ passes-ported w c

  pub taken-passes : p.no ≡ accepted → p ≡ pass_write w c
  taken-passes e = on-eq p.no accepted p _ _ e refl ∙ ap (or_as_it_was c) is-ported ∙ passes-ported w c

-- a chip that a write selects on, and one that it queues in
abbrev pub selects : BusWrite → Chip → Chip
selects w c = with_selection (w.value % 16) (with_times w.stamp c.core.start c)

abbrev pub queues : BusWrite → Chip → Chip
queues w c =
    let d = with_times w.stamp c.core.start c in
    with_queue (pushed (stamped w.value d) c.queue) d

-- "Port bit 1 clear selects at once; set, it queues the write", or is refused while 256 wait
by_cases : (clear full : Bool) (c d e : Chip) (q q' : Queue)
    → or_as_it_was c (cond clear (answered accepted d) (queued e (cond full (record { queue = q; no = queue_full }) (record { queue = q'; no = accepted }))))
    ≡ cond clear (answered accepted d) (cond full (answered queue_full c) (answered accepted (with_queue q' e)))
by_cases true full c d e q q' = refl
by_cases false true c d e q q' = refl
by_cases false false c d e q q' = refl

pub passes-in-range : (w : BusWrite) (c : Chip) → chip_in c ≡ true
    → pass_write w c
    ≡ cond (bit1_clear w.port) (answered accepted (selects w c)) (cond (leb 256 c.queue.count) (answered queue_full c) (answered accepted (queues w c)))
unfolding pass_write set_cpu_cycle write_port push chip_in core_in
passes-in-range w c t =
    rw (t, t)
    (by_cases (bit1_clear w.port) (leb 256 c.queue.count) c (selects w c) (with_times w.stamp c.core.start c) c.queue _)

-- so it answers 0 or 4, and neither the next word's start nor the clocks change; refused, nothing does
pub record PassesInRange (c : Chip) (a : Answered) : Type 0 where
  pub number : (a.no ≡ accepted) ⊎ (a.no ≡ queue_full)
  pub start : a.chip.core.start ≡ c.core.start
  pub clocks : a.chip.core.clocks ≡ c.core.clocks
  pub refused : (a.no ≡ accepted → ⊥) → (a.chip ≡ c) × (256 ≤ c.queue.count)

taken : (c d : Chip) → d.core.start ≡ c.core.start → d.core.clocks ≡ c.core.clocks → PassesInRange c (answered accepted d)
taken c d s k = record { number = inl refl; start = s; clocks = k; refused = λ n. absurd (n refl) }

pub pass-in-range : (w : BusWrite) (c : Chip) → chip_in c ≡ true → PassesInRange c (pass_write w c)
pass-in-range w c t =
    rw (passes-in-range w c t)
    (by_cond (PassesInRange c) (bit1_clear w.port) _ _ (λ _. taken c (selects w c) refl refl)
    (λ _. by_le (PassesInRange c) 256 c.queue.count
    (λ full. record { number = inr refl; start = refl; clocks = refl; refused = λ _. (refl, full) })
    (λ _. taken c (queues w c) refl refl)))

-- Register writes leave the noise's register and output alone, and all but those to 13 the envelope's position. Ticks keep the output
-- at the register's top bit, and a position from 0 up. Assumes nothing.
use mathlib.Core.Bool.{Bool, true, false, cond}
use mathlib.Core.List.{List, [], ◌∷◌}
use mathlib.Core.Path.{◌≡◌, refl, sym, ap, ◌∙◌}
use Prim.Native.Nat.{ℕ, zero, suc, ◌+◌, ◌*◌, ◌/◌, zero-le}
use borrow.Author.Tests.{eq-eqb, le-leb}
use lib.Dec.{eqb}
use lib.IntN.{ℤ, pos, negsuc}
use lib.Signed.{le_z, lt_z}
use Rattle.laws.proofs.Tests.{by_cond, by-eq, by_le}
use Rattle.noise.specs.declared.Noise.{Noise}
use Rattle.noise.specs.Course.{Agrees}
use Rattle.noise.proofs.Hissing.{reset-agrees, tick-agrees}
use Rattle.envelope.specs.Envelope.{next_position, envelope_tick}
use Rattle.envelope.specs.declared.Envelope.{Envelope}
use Rattle.tone.specs.declared.Tone.{Tone}
use Rattle.tone.specs.Tone.{tone_set}
use Rattle.generators.specs.declared.Generators.{Generators}
use Rattle.generators.specs.Generators.{tick, tone_at, put_tone, tones_set, tones_released}
use Rattle.generators.specs.Reset.{generators_reset}
use Rattle.generators.specs.Range.{GeneratorsInRange}
use Rattle.generators.proofs.InRange.{tick-in}
use Rattle.gates.specs.declared.Gates.{Gates}
use Rattle.registers.specs.declared.Voice.{Voice}
use Rattle.registers.specs.Registers.{pair_at, tone_period_set, noise_period_set, gates_set, envelope_period_set, shape_set, voice_set, apply_register}
use Rattle.registers.specs.Writes.{RegisterWrite, applied_in_order}
use Rattle.all_registers.specs.Reset.{voice_reset}
use Rattle.queue.specs.declared.Write.{Write}
use Rattle.queue_flush.specs.Applied.{apply_all, register_writes}
use Rattle.clocking_ticks.specs.declared.Ran.{Ran}
use Rattle.clocking_ticks.specs.Ticks.{one_more, ticking, ticked}
use Rattle.calls_effects.specs.Effects.{irq_set}
use Rattle.laws_promises.specs.History.{restart_in}

-- neither of two
pub neither : (a b : Bool) → cond a true b ≡ false → (a ≡ false) × (b ≡ false)
neither true b e = let z : true ≡ false = e in (z, cc)
neither false b e = (refl, e)

-- what a change of the voice leaves alone; the position too, if it is no restart
pub record Leaves (restart : Bool) (v w : Voice) : Type 0 where
  pub register : w.generators.noise.register ≡ v.generators.noise.register
  pub output : w.generators.noise.output ≡ v.generators.noise.output
  pub position : restart ≡ false → w.generators.envelope.position ≡ v.generators.envelope.position

module _ {a b : Bool} {u v w : Voice} (f : Leaves a u v) (g : Leaves b v w) where
  leaves-both : Leaves (cond a true b) u w
  leaves-both =
      record {
        register = g.register ∙ f.register;
        output = g.output ∙ f.output;
        position = λ e. let (p, q) = neither a b e in g.position q ∙ f.position p;
      }

  leaves-some : Leaves true u w
  leaves-some = record { register = g.register ∙ f.register; output = g.output ∙ f.output; position = λ e. cc }

abbrev pub Same : Generators → Generators → Type 0
Same g x = (x.noise ≡ g.noise) × (x.envelope ≡ g.envelope)

pub put_same : (n : ℕ) (t : Tone) (g : Generators) → Same g (put_tone n t g)
unfolding put_tone
put_same n t g =
    by-eq (Same g) n 0 (λ _. (refl, refl))
    (λ _. by-eq (Same g) n 1 (λ _. (refl, refl))
    (λ _. by-eq (Same g) n 2 (λ _. (refl, refl))
    (λ _. (refl, refl))))

tone-leaves : (channel : ℕ) (v : Voice) → Leaves false v (tone_period_set channel v)
unfolding tone_period_set tones_set
tone-leaves channel v =
    let (n, e) = put_same channel (tone_set (pair_at (channel * 2) v) v.irq (tone_at channel v.generators)) v.generators in
    record {
      register = ap (λ (x : Noise). x.register) n;
      output = ap (λ (x : Noise). x.output) n;
      position = λ _. ap (λ (x : Envelope). x.position) e;
    }

set-leaves : (r : ℕ) (v : Voice) → Leaves (eqb r 13) v (voice_set r v)
unfolding voice_set noise_period_set gates_set envelope_period_set shape_set
set-leaves r v =
    by_le (Leaves (eqb r 13) v) r 5
    (λ _. let t = tone-leaves (r / 2) v in record { register = t.register; output = t.output; position = λ _. t.position refl })
    (λ _. by-eq (Leaves (eqb r 13) v) r 6 (λ _. record { register = refl; output = refl; position = λ _. refl })
    (λ _. by-eq (Leaves (eqb r 13) v) r 7 (λ _. record { register = refl; output = refl; position = λ _. refl })
    (λ _. by-eq (Leaves (eqb r 13) v) r 11 (λ _. record { register = refl; output = refl; position = λ _. refl })
    (λ _. by-eq (Leaves (eqb r 13) v) r 12 (λ _. record { register = refl; output = refl; position = λ _. refl })
    (λ _. by-eq (Leaves (eqb r 13) v) r 13
    (λ e. record { register = refl; output = refl; position = λ f. let z : true ≡ false = sym (eq-eqb r 13 e) ∙ f in cc })
    (λ _. record { register = refl; output = refl; position = λ _. refl }))))))

pub apply-leaves : (r x : ℕ) (v : Voice) → Leaves (eqb r 13) v (apply_register r x v)
unfolding apply_register
apply-leaves r x v =
    by_le (Leaves (eqb r 13) v) 14 r (λ _. record { register = refl; output = refl; position = λ _. refl })
    (λ _. let s = set-leaves r _ in record { register = s.register; output = s.output; position = s.position })

-- writes in order
pub all-leave : (l : List Write) (v : Voice) → Leaves (restart_in l) v (apply_all l v)
unfolding applied_in_order register_writes
all-leave [] v = record { register = refl; output = refl; position = λ _. refl }
all-leave (w ∷ l) v = leaves-both (apply-leaves w.register w.value v) (all-leave l _)

pub in-order-leaves : (ws : List RegisterWrite) (v : Voice) → Leaves true v (applied_in_order ws v)
unfolding applied_in_order
in-order-leaves [] v = record { register = refl; output = refl; position = λ _. refl }
in-order-leaves (w ∷ ws) v = leaves-some (apply-leaves w.register w.value v) (in-order-leaves ws _)

pub irq-leaves : (on : Bool) (v : Voice) → Leaves false v (irq_set on v)
unfolding irq_set tones_released
irq-leaves true v = record { register = refl; output = refl; position = λ _. refl }
irq-leaves false v = record { register = refl; output = refl; position = λ _. refl }

-- so what the noise gives agrees with its register as it did
pub leaves-agrees : {restart : Bool} {v w : Voice} → Leaves restart v w → Agrees v.generators.noise → Agrees w.generators.noise
leaves-agrees s a = rw (s.output, s.register) a

-- a position from 0 up
abbrev pub Circles : Generators → Type 0
Circles g = le_z (pos 0) g.envelope.position ≡ true

pub leaves-circles : {restart : Bool} {v w : Voice} → Leaves restart v w → restart ≡ false → Circles v.generators → Circles w.generators
leaves-circles s e a = rw (s.position e) a

-- a reset
pub reset-sounds : (v : Voice) → Agrees (voice_reset v).generators.noise × Circles (voice_reset v).generators
unfolding voice_reset generators_reset
reset-sounds v =
    let s = apply-leaves 7 0x3f _ in
    (leaves-agrees s (reset-agrees v.generators.noise), leaves-circles s refl refl)

-- ticks
next-circles : (p : ℤ) → le_z (pos 0) p ≡ true → le_z (pos 0) (next_position p) ≡ true
unfolding next_position
next-circles (pos m) h =
    by_cond (λ (z : ℤ). le_z (pos 0) z ≡ true) (lt_z (pos m) (pos 63)) _ _ (λ _. le-leb 0 (m + 1) zero-le) (λ _. refl)
next-circles (negsuc m) h = let z : false ≡ true = h in cc

tick-circles : (g : Generators) → Circles g → Circles (tick g)
unfolding tick envelope_tick
tick-circles g h =
    let e = g.envelope in
    by_le (λ (x : Envelope). le_z (pos 0) x.position ≡ true) e.period (e.counter + 1) (λ _. next-circles e.position h) (λ _. h)

ticking-circles : (k : ℕ) (gates : Gates) (rate internal : ℕ) (r : Ran) → Circles r.generators
    → Circles (ticking k gates rate internal r).generators
unfolding ticking
ticking-circles zero gates rate internal r h = h
ticking-circles (suc k) gates rate internal r h =
    let t = tick-circles r.generators h in
    by_le (λ (x : Ran). Circles x.generators) internal (r.accumulator + rate) (λ _. t)
    (λ _. ticking-circles k gates rate internal (one_more gates rate r) t)

tick-sounds : (g : Generators) → GeneratorsInRange g → Agrees g.noise → Agrees (tick g).noise
unfolding tick
tick-sounds g h a = tick-agrees g.noise a h.noise

ticking-agrees : (k : ℕ) (gates : Gates) (rate internal : ℕ) (r : Ran) → GeneratorsInRange r.generators → Agrees r.generators.noise
    → Agrees (ticking k gates rate internal r).generators.noise
unfolding ticking
ticking-agrees zero gates rate internal r h a = a
ticking-agrees (suc k) gates rate internal r h a =
    let t : Agrees (tick r.generators).noise = tick-sounds r.generators h a in
    by_le (λ (x : Ran). Agrees x.generators.noise) internal (r.accumulator + rate) (λ _. t)
    (λ _. ticking-agrees k gates rate internal (one_more gates rate r) (tick-in h) t)

module _ (gates : Gates) (rate internal : ℕ) (g : Generators) (accumulator : ℕ) where
  pub ticked-circles : Circles g → Circles (ticked gates rate internal g accumulator).generators
  unfolding ticked
  ticked-circles h = ticking-circles internal gates rate internal _ h

  pub ticked-agrees : GeneratorsInRange g → Agrees g.noise → Agrees (ticked gates rate internal g accumulator).generators.noise
  unfolding ticked
  ticked-agrees h a = ticking-agrees internal gates rate internal _ h a

-- A write, whatever the IRQ flag, changes the stored bytes and the settings of a voice, and nothing else. Assumes nothing.
use mathlib.Core.Bool.{Bool}
use mathlib.Core.List.{List, [], ◌∷◌}
use mathlib.Core.Path.{◌≡◌, refl, ap, ◌∙◌}
use Prim.Native.Nat.{ℕ, zero, suc, ◌*◌, ◌/◌}
use native.Mathlib.Omega.{arith}
use borrow.Author.Tests.{ne_eqb}
use Rattle.laws.proofs.Tests.{by_le, by-eq, by_cond}
use Rattle.tone.specs.declared.Tone.{Tone}
use Rattle.tone.specs.Tone.{tone_set}
use Rattle.generators.specs.declared.Generators.{Generators}
use Rattle.generators.specs.Generators.{tone_at, put_tone, tones_set}
use Rattle.gates.specs.declared.Gates.{Gates}
use Rattle.registers.specs.declared.Voice.{Voice}
use Rattle.registers.specs.Registers.{with_generators, pair_at, tone_period_set, noise_period_set, gates_set, envelope_period_set, shape_set, voice_set, stored, apply_register}
use Rattle.registers.specs.Writes.{RegisterWrite, applied_in_order}
use Rattle.settling.specs.Settling.{pitch_of, settings_of, with_pitch, generators_with, with_settings}

-- the same tone but for what registers set
abbrev Same : Tone → Tone → Type 0
Same t x = x ≡ with_pitch (pitch_of x) t

tone-rest : (period : ℕ) (irq : Bool) (t : Tone) → Same t (tone_set period irq t)
unfolding tone_set
tone-rest period irq t =
    by_le (Same t) period 1 (λ h. by_cond (Same t) irq _ _ (λ e. refl) (λ e. refl)) (λ h. refl)

tones-rest : (channel period : ℕ) (irq : Bool) (g : Generators) (gates : Gates)
    → tones_set channel period irq g ≡ generators_with (settings_of (tones_set channel period irq g) gates) g
unfolding tones_set put_tone tone_at generators_with
tones-rest zero period irq g gates = rw (tone-rest period irq g.a)
tones-rest (suc zero) period irq g gates = rw (tone-rest period irq g.b)
tones-rest (suc (suc zero)) period irq g gates = rw (tone-rest period irq g.c)
tones-rest (suc (suc (suc n))) period irq g gates =
    let m = suc (suc (suc n)) in
    rw (ne_eqb m 0 (λ e. omega arith), ne_eqb m 1 (λ e. omega arith), ne_eqb m 2 (λ e. omega arith))

-- the same voice but for its stored bytes and its settings
pub record SameRest (v x : Voice) : Type 0 where
  pub same : x ≡ with_settings x.registers (settings_of x.generators x.gates) v

module _ (v : Voice) where
  tone-period-rest : (channel : ℕ) → SameRest v (tone_period_set channel v)
  unfolding tone_period_set with_settings
  tone-period-rest channel =
      record { same = ap (λ (g : Generators). with_generators g v) (tones-rest channel (pair_at (channel * 2) v) v.irq v.generators v.gates) }

  noise-period-rest : SameRest v (noise_period_set v)
  unfolding noise_period_set with_settings generators_with
  noise-period-rest = record { same = refl }

  gates-rest : SameRest v (gates_set v)
  unfolding gates_set with_settings generators_with
  gates-rest = record { same = refl }

  envelope-period-rest : SameRest v (envelope_period_set v)
  unfolding envelope_period_set with_settings generators_with
  envelope-period-rest = record { same = refl }

  shape-rest : SameRest v (shape_set v)
  unfolding shape_set with_settings generators_with
  shape-rest = record { same = refl }

  none_rest : SameRest v v
  unfolding with_settings generators_with
  none_rest = record { same = refl }

  set_rest : (register : ℕ) → SameRest v (voice_set register v)
  unfolding voice_set
  set_rest r =
      by_le (SameRest v) r 5 (λ _. tone-period-rest (r / 2))
      (λ _. by-eq (SameRest v) r 6 (λ _. noise-period-rest)
      (λ _. by-eq (SameRest v) r 7 (λ _. gates-rest)
      (λ _. by-eq (SameRest v) r 11 (λ _. envelope-period-rest)
      (λ _. by-eq (SameRest v) r 12 (λ _. envelope-period-rest)
      (λ _. by-eq (SameRest v) r 13 (λ _. shape-rest)
      (λ _. none_rest))))))

-- one after the other
rest-on : {v w x : Voice} → SameRest v w → SameRest w x → SameRest v x
unfolding with_settings generators_with
rest-on {v} {w} {x} a b =
    record { same = b.same ∙ ap (λ (y : Voice). with_settings x.registers (settings_of x.generators x.gates) y) a.same }

stored-rest : (register value : ℕ) (v : Voice) → SameRest v (stored register value v)
unfolding with_settings generators_with
stored-rest r x v = record { same = refl }

apply-rest : (register value : ℕ) (v : Voice) → SameRest v (apply_register register value v)
unfolding apply_register
apply-rest r x v = by_le (SameRest v) 14 r (λ _. none_rest v) (λ _. rest-on (stored-rest r x v) (set_rest (stored r x v) r))

-- any number of writes
pub applied-rest : (ws : List RegisterWrite) (v : Voice) → SameRest v (applied_in_order ws v)
unfolding applied_in_order
applied-rest [] v = none_rest v
applied-rest (w ∷ ws) v = rest-on (apply-rest w.register w.value v) (applied-rest ws (apply_register w.register w.value v))

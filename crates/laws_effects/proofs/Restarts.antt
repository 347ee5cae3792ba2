-- A write to 13 restarts the envelope; any other leaves its position, counter and shape, so that after the last restart of a list they stay
-- as it set them. Assumes nothing.
use mathlib.Core.Bool.{Bool, true, false}
use mathlib.Core.List.{List, [], ◌∷◌}
use mathlib.Core.Path.{◌≡◌, refl, sym, ap, ◌∙◌}
use Prim.Native.Nat.{ℕ, ◌+◌, ◌*◌, ◌/◌, ◌%◌, ◌<◌}
use native.Mathlib.Omega.{arith}
use borrow.Author.Tests.{eqb-true, eqb-false}
use lib.ListN.{get_or, set}
use lib.Seq.{get_or-set_other}
use lib.Dec.{eqb}
use Rattle.laws.proofs.Tests.{by_le, by-eq}
use Rattle.envelope_shapes.specs.Shapes.{offset_of}
use Rattle.envelope.specs.declared.Envelope.{Envelope}
use Rattle.tone.specs.declared.Tone.{Tone}
use Rattle.tone.specs.Tone.{tone_set}
use Rattle.generators.specs.declared.Generators.{Generators}
use Rattle.generators.specs.Generators.{tone_at, put_tone, tones_set}
use Rattle.registers.specs.declared.Voice.{Voice}
use Rattle.registers.specs.Registers.{apply_register, byte_at, envelope_period_set, gates_set, masked, noise_period_set, pair_at, shape_set, stored, tone_period_set, voice_set}
use Rattle.registers.specs.Writes.{RegisterWrite, applied_in_order}
use Rattle.write_effects.specs.Effects.{one, restarts_in}
use Rattle.dump_writes.specs.Shape.{Untouched, Restarted}
use Rattle.laws_effects.proofs.Bytes.{none_of}

put_keeps : (n : ℕ) (t : Tone) (g : Generators) → (put_tone n t g).envelope ≡ g.envelope
unfolding put_tone
put_keeps n t g =
    let P : Generators → Type 0 = λ x. x.envelope ≡ g.envelope in
    by-eq P n 0 (λ _. refl) (λ _. by-eq P n 1 (λ _. refl) (λ _. by-eq P n 2 (λ _. refl) (λ _. refl)))

module _ (r x : ℕ) (v : Voice) (other : r ≡ 13 → ⊥) where
  -- the byte stored at 13
  kept : get_or (set v.registers r (masked r x)) 13 0 ≡ byte_at 13 v
  kept = get_or-set_other v.registers r 13 (masked r x) 0 (λ e. other (sym e))

  tones : Untouched v (tone_period_set (r / 2) (stored r x v))
  unfolding tone_period_set tones_set
  tones =
      let w = stored r x v in
      let e = put_keeps (r / 2) (tone_set (pair_at (r / 2 * 2) w) w.irq (tone_at (r / 2) w.generators)) w.generators in
      record {
        stored = kept;
        position = ap (λ (y : Envelope). y.position) e;
        counter = ap (λ (y : Envelope). y.counter) e;
        shape = ap (λ (y : Envelope). y.offset) e;
      }

  leaves : Untouched v (voice_set r (stored r x v))
  unfolding voice_set noise_period_set gates_set envelope_period_set
  leaves =
      let P : Voice → Type 0 = λ y. Untouched v y in
      by_le P r 5 (λ _. tones)
      (λ _. by-eq P r 6 (λ _. record { stored = kept; position = refl; counter = refl; shape = refl })
      (λ _. by-eq P r 7 (λ _. record { stored = kept; position = refl; counter = refl; shape = refl })
      (λ _. by-eq P r 11 (λ _. record { stored = kept; position = refl; counter = refl; shape = refl })
      (λ _. by-eq P r 12 (λ _. record { stored = kept; position = refl; counter = refl; shape = refl })
      (λ _. by-eq P r 13 (λ e. absurd (other e))
      (λ _. record { stored = kept; position = refl; counter = refl; shape = refl }))))))

pub same : (v : Voice) → Untouched v v
same v = record { stored = refl; position = refl; counter = refl; shape = refl }

pub untouched : (r x : ℕ) (v : Voice) → eqb r 13 ≡ false → Untouched v (apply_register r x v)
unfolding apply_register
untouched r x v e = by_le (λ (w : Voice). Untouched v w) 14 r (λ _. same v) (λ _. leaves r x v (eqb-false r 13 e))

anew : (x : ℕ) (v : Voice) → Restarted (apply_register 13 x v)
unfolding apply_register voice_set shape_set
anew x v = record { position = refl; counter = refl; shape = refl }

pub restarted : (r x : ℕ) (v : Voice) → eqb r 13 ≡ true → Restarted (apply_register r x v)
restarted r x v e = rw (eqb-true r 13 e) (anew x v)

-- ---- lists
untouched-both : {u v w : Voice} → Untouched u v → Untouched v w → Untouched u w
untouched-both f g =
    record {
      stored = g.stored ∙ f.stored;
      position = g.position ∙ f.position;
      counter = g.counter ∙ f.counter;
      shape = g.shape ∙ f.shape;
    }

still-restarted : {v w : Voice} → Restarted v → Untouched v w → Restarted w
still-restarted f g =
    record {
      position = g.position ∙ f.position;
      counter = g.counter ∙ f.counter;
      shape = g.shape ∙ f.shape ∙ ap (λ (b : ℕ). offset_of (b % 16)) (sym g.stored);
    }

pub none-restarts : (writes : List RegisterWrite) (v : Voice) → restarts_in writes ≡ 0 → Untouched v (applied_in_order writes v)
unfolding restarts_in applied_in_order
none-restarts [] v e = same v
none-restarts (w ∷ writes) v e =
    let (first, rest) = none_of (eqb w.register 13) (restarts_in writes) e in
    untouched-both (untouched w.register w.value v first) (none-restarts writes (apply_register w.register w.value v) rest)

-- no write takes a restart back
stays-restarted : (writes : List RegisterWrite) (v : Voice) → Restarted v → Restarted (applied_in_order writes v)
unfolding applied_in_order
stays-restarted [] v h = h
stays-restarted (w ∷ writes) v h = stays-restarted writes (apply_register w.register w.value v) (by_both (eqb w.register 13) refl)
  where
    by_both : (t : Bool) → eqb w.register 13 ≡ t → Restarted (apply_register w.register w.value v)
    by_both true e = restarted w.register w.value v e
    by_both false e = still-restarted h (untouched w.register w.value v e)

pub some-restart : (writes : List RegisterWrite) (v : Voice) → 0 < restarts_in writes → Restarted (applied_in_order writes v)
unfolding restarts_in applied_in_order
some-restart [] v h = absurd (omega arith)
some-restart (w ∷ writes) v h = by_both (eqb w.register 13) refl (some-restart writes (apply_register w.register w.value v)) h
  where
    by_both : (t : Bool) → eqb w.register 13 ≡ t → (0 < restarts_in writes → Restarted (applied_in_order writes (apply_register w.register w.value v)))
        → 0 < one t + restarts_in writes → Restarted (applied_in_order writes (apply_register w.register w.value v))
    by_both true e rest h = stays-restarted writes (apply_register w.register w.value v) (restarted w.register w.value v e)
    by_both false e rest h = rest (omega arith)

-- What any verdict's numbers are, a refusal's too. Assumes nothing.
use mathlib.Core.List.{List}
use mathlib.Core.Path.{◌≡◌, refl}
use Prim.Native.Nat.{ℕ, zero, suc, ◌+◌, ◌≤◌, ◌<◌}
use native.Mathlib.Omega.{arith}
use lib.Dec.{ltb}
use lib.ListN.{length}
use Rattle.std.specs.Prelude.{Result, Ok, Err}
use Rattle.laws.proofs.Tests.{by_cond}
use Rattle.text_lines.specs.Lines.{line_at}
use Rattle.dump_lines.specs.OneLine.{frame_at}
use Rattle.dump_lines.proofs.Ranges.{frames-range}
use Rattle.dump_clocks.specs.declared.ClockLines.{ClockLines}
use Rattle.dump_clocks.specs.declared.LineRefused.{LineRefused}
use Rattle.dump_clocks.proofs.Paced.{numbered, refused-early}
use Rattle.dump.specs.declared.Dump.{Dump}
use Rattle.dump.specs.declared.Verdict.{Verdict}
use Rattle.dump.specs.Checked.{frames_from, sized, checked, told, verdict_of}
use Rattle.dump.proofs.Accepted.{Laid, checked-laid}

pub record Told (v : Verdict) : Type 0 where
  pub no : v.no < 256
  pub line : v.line ≤ 1905
  pub words : v.words ≤ 4096
  pub frames : v.frames ≤ 1900
  -- a refusal has no frames, and an accepted dump's frames have words
  pub none : (v.no ≡ 0 → ⊥) → v.frames ≡ 0
  pub some : v.no ≡ 0 → 0 < v.words

told-refusal : (e : LineRefused) → e.line ≤ 1905 → Told (told (Err e))
unfolding told
told-refusal e l =
    record {
      no = (numbered e.why).1;
      line = l;
      words = omega arith;
      frames = omega arith;
      none = λ _. refl;
      some = λ z. absurd (omega (arith, (numbered e.why).0));
    }

told-dump : (t : List ℕ) (d : Dump) → Laid t (told (Ok d)) → Told (told (Ok d))
unfolding told
told-dump t d l =
    record { no = omega arith; line = omega arith; words = l.words; frames = l.frames; none = λ z. absurd (z refl); some = λ _. l.any }

module _ (t : List ℕ) where
  frames-early : (k line at : ℕ) → line + k ≤ 1905 → (e : LineRefused) → frames_from t k line at ≡ Err e → e.line ≤ 1905
  unfolding frames_from
  frames-early zero line at h e =
      by_cond (λ (v : Result (Unit {0}) LineRefused). v ≡ Err e → e.line ≤ 1905) (ltb at (length t)) _ _ (λ _ q. grind arith) (λ _ q. cc)
  frames-early (suc k) line at h e =
      by_cond (λ (v : Result (Unit {0}) LineRefused). v ≡ Err e → e.line ≤ 1905) (frame_at t at) _ _
      (λ _. frames-early k (line + 1) (line_at t at).next (omega arith) e) (λ _ q. grind arith)

  sized-early : (k : ClockLines) (e : LineRefused) → sized t k ≡ Err e → e.line ≤ 1905
  unfolding sized
  sized-early k e q = grind (arith, frames-early, frames-range)

  checked-early : (e : LineRefused) → checked t ≡ Err e → e.line ≤ 1905
  unfolding checked
  checked-early e q = grind (arith, refused-early, sized-early)

  told-result : (r : Result Dump LineRefused) → checked t ≡ r → Told (told r)
  told-result (Ok d) q = told-dump t d (checked-laid t d q)
  told-result (Err e) q = told-refusal e (checked-early e q)

  pub verdict-told : Told (verdict_of t)
  verdict-told = told-result (checked t) refl

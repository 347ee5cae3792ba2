-- What callers lean on: an accepted dump's numbers are in range, and each of its frames has its form. Assumes nothing.
use mathlib.Core.Bool.{true}
use mathlib.Core.Path.{◌≡◌, refl, ap}
use mathlib.Core.List.{List}
use Prim.Native.Nat.{ℕ, zero, suc, ◌+◌, ◌/◌, ◌≤◌, ◌<◌}
use native.Mathlib.Omega.{arith}
use Rattle.std.specs.Prelude.{Result, Ok, Err}
use Rattle.laws.proofs.Tests.{by_cond}
use Rattle.refusals.specs.declared.Refusal.{Refusal}
use Rattle.text_lines.specs.Bytes.{bytes}
use Rattle.text_lines.specs.Lines.{line_at}
use Rattle.text_entries.specs.Entries.{line_entry_at}
use Rattle.dump_lines.specs.OneLine.{words_line, frames_line, frame_at}
use Rattle.dump_lines.proofs.Ranges.{words-range, frames-range}
use Rattle.dump_clocks.specs.Clocks.{at_line, and_then, clock_lines}
use Rattle.dump_clocks.specs.declared.ClockLines.{ClockLines}
use Rattle.dump_clocks.specs.declared.LineRefused.{LineRefused}
use Rattle.dump_clocks.proofs.Paced.{Paced, numbered, accepted-paced}
use Rattle.dump.specs.Checked.{frames_from, sized, checked, told, verdict_of}
use Rattle.dump.specs.declared.Dump.{Dump}
use Rattle.dump.specs.declared.Verdict.{Verdict}

-- the place of the line f lines on
abbrev pub place_from : List ℕ → ℕ → ℕ → ℕ
place_from t at zero = at
place_from t at (suc f) = (line_at t (place_from t at f)).next

pub record Laid (t : List ℕ) (r : Verdict) : Type 0 where
  pub top : r.master ≤ 1073741823
  pub some : 0 < r.rate
  pub slow : r.rate ≤ r.master / 8
  pub words : r.words ≤ 4096
  pub any : 0 < r.words
  pub frames : r.frames ≤ 1900
  pub frame : (f : ℕ) → f < r.frames → frame_at t (place_from t r.body f) ≡ true

-- a line on, then f lines on
place-on : (t : List ℕ) (at f : ℕ) → place_from t (line_at t at).next f ≡ place_from t at (suc f)
place-on t at zero = refl
place-on t at (suc f) = ap (λ (p : ℕ). (line_at t p).next) (place-on t at f)

abbrev Formed : List ℕ → ℕ → ℕ → Type 0
Formed t at k = (f : ℕ) → f < k → frame_at t (place_from t at f) ≡ true

one_more : (t : List ℕ) (at k : ℕ) → frame_at t at ≡ true → Formed t (line_at t at).next k → Formed t at (suc k)
one_more t at k g more zero h = g
one_more t at k g more (suc f) h = rw (← place-on t at f) (more f (omega arith))

formed : (t : List ℕ) (k line at : ℕ) → frames_from t k line at ≡ Ok tt → Formed t at k
unfolding frames_from
formed t zero line at = λ e f h. absurd (omega arith)
formed t (suc k) line at =
    by_cond (λ (v : Result (Unit {0}) LineRefused). v ≡ Ok tt → Formed t at (suc k)) (frame_at t at) _ _
    (λ g e. one_more t at k g (formed t k (line + 1) (line_at t at).next e)) (λ g e. cc)

-- what is read after a line is read, of a whole that is accepted
pub ok_then : {T U E P : Type 0} (r : Result T E) (next : T → Result U E) (y : U) → and_then r next ≡ Ok y → ((x : T) → r ≡ Ok x → next x ≡ Ok y → P) → P
ok_then (Ok x) next y e f = f x refl e
ok_then (Err x) next y e f = cc

pub ok-line : {T : Type 0} (r : Result T Refusal) (line : ℕ) (x : T) → at_line r line ≡ Ok x → r ≡ Ok x
ok-line (Ok y) line x e = cc
ok-line (Err y) line x e = cc

same_laid : (t : List ℕ) {c d : Dump} → ◌≡◌ {A = Result Dump LineRefused} (Ok c) (Ok d) → Laid t (told (Ok c)) → Laid t (told (Ok d))
same_laid t {c} {d} e l = let q : d ≡ c = cc in rw q l

sized-laid : (t : List ℕ) (k : ClockLines) → Paced k → (d : Dump) → sized t k ≡ Ok d → Laid t (told (Ok d))
unfolding sized told
sized-laid t k p d e =
    let three = line_entry_at (bytes "words=") t k.third in
    let four = line_entry_at (bytes "frames=") t k.fourth in
    ok_then (at_line (words_line three.value) 3) _ d e
    (λ words w e. ok_then (at_line (frames_line four.value) 4) _ d e
    (λ frames f e. ok_then (frames_from t frames 5 four.next) _ d e
    (λ _ g e. same_laid t e
    (record {
      top = p.top;
      some = p.some;
      slow = p.slow;
      words = (words-range three.value words (ok-line _ 3 words w)).1;
      any = (words-range three.value words (ok-line _ 3 words w)).0;
      frames = frames-range four.value frames (ok-line _ 4 frames f);
      frame = formed t frames 5 four.next g;
    }))))

pub checked-laid : (t : List ℕ) (d : Dump) → checked t ≡ Ok d → Laid t (told (Ok d))
unfolding checked
checked-laid t d e = ok_then (clock_lines t) (sized t) d e (λ k c s. sized-laid t k (accepted-paced t k c) d s)

-- what the numbers of a check say of an accepted one holds where the number is 0
pub where_accepted : (P : Verdict → Type 0) (r : Result Dump LineRefused) → ((d : Dump) → r ≡ Ok d → P (told (Ok d))) → (told r).no ≡ 0 → P (told r)
unfolding told
where_accepted P (Ok d) f e = f d refl
where_accepted P (Err x) f e = absurd (omega (arith, (numbered x.why).0))

pub accepted-laid : (t : List ℕ) → (verdict_of t).no ≡ 0 → Laid t (verdict_of t)
accepted-laid t = where_accepted (Laid t) (checked t) (checked-laid t)

-- The value of a line, as `value_at` cuts it. Assumes nothing.
use mathlib.Core.Bool.{true, false, not}
use mathlib.Core.Path.{◌≡◌, refl, sym, ◌∙◌}
use mathlib.Core.List.{List, [], ◌∷◌}
use Prim.Native.Nat.{ℕ, ◌+◌, ◌-◌, ◌≤◌, ◌<◌}
use native.Mathlib.Omega.{arith}
use borrow.Author.Tests.{ltb-true, eq-eqb, ne_eqb}
use denote.Ref.{Bor}
use lib.Dec.{eqb, ltb}
use lib.ListN.{length, take, drop}
use lib.Pointwise.{pointwise}
use Rattle.std.specs.Prelude.{Option, Some, None, MatchOption}
use Rattle.std.specs.Option.{unwrap_or}
use Rattle.std.proofs.lemmas.Bool.{not-true, not-false}
use Rattle.laws.proofs.Tests.{by_cond, by-same}
use Rattle.text_lines.specs.Lines.{end_at, line_at, starts_with, value_at}
use Rattle.text_lines.specs.declared.Line.{Line}

-- std compares a line's first bytes with the key as the definition does
same-start : (key line : List ℕ) → pointwise eqb (take (length key) line) key ≡ starts_with key line
unfolding starts_with
same-start [] line = refl
same-start (k ∷ ks) [] = refl
same-start (k ∷ ks) (b ∷ bs) =
    by-same k b (λ e. rw (eq-eqb k b e, eq-eqb b k (sym e)) (same-start ks bs)) (λ n. rw (ne_eqb k b n, ne_eqb b k (λ e. n (sym e))))

module _ (t : List ℕ) (at : ℕ) where
  end_after : at ≤ (line_at t at).end
  unfolding line_at
  end_after = by_cond (λ (l : Line). at ≤ l.end) (ltb (end_at t at) (length t)) _ _ (λ e. omega arith) (λ e. omega arith)

  pub whole-inside : (line_at t at).whole ≡ true → (line_at t at).end < length t
  unfolding line_at
  whole-inside =
      by_cond (λ (l : Line). l.whole ≡ true → l.end < length t) (ltb (end_at t at) (length t)) _ _
      (λ e _. ltb-true (end_at t at) (length t) e) (λ e w. absurd (let z : ◌≡◌ {A = ℕ} 0 1 = cc in omega arith))

module _ (t : List ℕ) (at : ℕ) {l : Line} (q : l ≡ line_at t at) where
  pub line_after : at ≤ l.end
  line_after = rw q (end_after t at)

  pub line-within : not l.whole ≡ false → l.end ≤ length t
  line-within w = let h : l.end < length t = rw q (whole-inside t at (rw q at (not-false l.whole w))) in omega arith

  -- the line's bytes, and what stands in them after the key
  module _ (w : not l.whole ≡ false) (key : List ℕ) where
    pub value-found : (o : Option (Bor (List ℕ))) (d : Bor (List ℕ))
        → MatchOption o (pointwise eqb (take (length key) (take (l.end - at) (drop at t))) key ≡ false)
        (λ (x : Bor (List ℕ)). (pointwise eqb (take (length key) (take (l.end - at) (drop at t))) key ≡ true) × (x.now ≡ drop (length key) (take (l.end - at) (drop at t))) × (length x.now + length key ≡ length (take (l.end - at) (drop at t))))
        → d.now ≡ [] → (unwrap_or o d).now ≡ value_at key t at
    unfolding value_at
    value-found None d h e = e ∙ rw (← q, not-false l.whole w, ← same-start key (take (l.end - at) (drop at t)), h)
    value-found (Some x) d h e = h.1 ∙ rw (← q, not-false l.whole w, ← same-start key (take (l.end - at) (drop at t)), h.0)

  pub value-missing : (key : List ℕ) → not l.whole ≡ true → [] ≡ value_at key t at
  unfolding value_at
  value-missing key w = rw (← q, not-true l.whole w)

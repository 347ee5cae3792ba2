-- The end of a line: std's search for an LF in what is left of the text is the definition's. Assumes nothing.
use mathlib.Core.Bool.{Bool, true, false, cond}
use mathlib.Core.Path.{◌≡◌, refl, sym, ap, ◌∙◌}
use mathlib.Core.List.{List, [], ◌∷◌}
use mathlib.Core.Logic.{◌⊎◌, inl, inr}
use Prim.Native.Nat.{ℕ, suc, ◌+◌, ◌≤◌, ◌<◌}
use native.Mathlib.Omega.{arith}
use borrow.Author.Tests.{lt-ltb, le-ltb, ltb-true, ltb-false}
use denote.Ref.{Bor}
use lib.Dec.{eqb, ltb}
use lib.ListN.{length, drop, length-drop, drop_of_length-le}
use lib.Seq.{take-length}
use Rattle.std.specs.Prelude.{Option, Some, None, MatchOption}
use Rattle.std.specs.Option.{unwrap_or}
use Rattle.std.specs.List.{slice_range, position_or_len}
use Rattle.std.proofs.lemmas.Option.{cond_some}
use Rattle.std.proofs.lemmas.List.Recursion.{is_position_or_len}
use Rattle.laws.proofs.Tests.{by_cond}
use Rattle.text_lines.specs.Lines.{span, line_at}

abbrev pub is_lf : ℕ → Bool
is_lf b = eqb b 10

span-is : (l : List ℕ) → span l ≡ position_or_len is_lf l
unfolding span
span-is l = is_position_or_len span is_lf refl (λ x xs. ap (λ (n : ℕ). cond (eqb x 10) 0 n) (omega arith)) l

span-within : (l : List ℕ) → span l ≤ length l
unfolding span
span-within [] = omega arith
span-within (b ∷ bs) = by_cond (λ (n : ℕ). n ≤ suc (length bs)) (eqb b 10) _ _ (λ _. omega arith) (λ _. omega (arith, span-within bs))

cond_none : {A : Type 0} (b : Bool) (x : A) → cond b (Some x) None ≡ None → b ≡ false
cond_none true x e = cc
cond_none false x e = refl

-- the place of the first LF among the bytes
abbrev pub sought : List ℕ → Option ℕ
sought l = cond (ltb (position_or_len is_lf l) (length l)) (Some (position_or_len is_lf l)) None

module _ (t : List ℕ) (at : ℕ) where
  -- what is left of the text; nothing where it ends before the place
  pub rest-is : (o : Option (Bor (List ℕ))) (d : Bor (List ℕ))
      → MatchOption o ((length t < at) ⊎ (length t < length t)) (λ (x : Bor (List ℕ)). (at ≤ length t) × (length t ≤ length t) × (x.now ≡ slice_range t at (length t)) × (length x.now + at ≡ length t))
      → d.now ≡ [] → (unwrap_or o d).now ≡ drop at t
  rest-is None d h e = e ∙ sym (drop_of_length-le t {i = at} (elim h [ inl p ↦ omega arith | inr p ↦ omega arith ]))
  rest-is (Some x) d h e = h.2 ∙ rw (← length-drop at t) (take-length (drop at t))

  module _ {rest : List ℕ} (e : rest ≡ drop at t) where
    pub found : {n : ℕ} → sought rest ≡ Some n → record { start = at; end = at + n; next = at + n + 1; whole = true } ≡ line_at t at
    unfolding line_at
    found {n} h =
        let (p, q) = cond_some (ltb (position_or_len is_lf rest) (length rest)) (position_or_len is_lf rest) n h in
        let s : span (drop at t) ≡ n = ap span (sym e) ∙ span-is rest ∙ q in
        let l : n < length (drop at t) = omega (arith, ltb-true (position_or_len is_lf rest) (length rest) p, q, ap length e) in
        rw (s, lt-ltb (at + n) (length t) (omega (arith, l, length-drop at t)))

    pub none : sought rest ≡ None → record { start = at; end = at + length rest; next = at + length rest; whole = false } ≡ line_at t at
    unfolding line_at
    none h =
        let p : length rest ≤ position_or_len is_lf rest = ltb-false _ _ (cond_none (ltb (position_or_len is_lf rest) (length rest)) _ h) in
        let s : span (drop at t) ≡ length rest = omega (arith, p, ap span (sym e), span-is rest, span-within rest) in
        let l : length rest ≡ length (drop at t) = ap length e in
        rw (s, le-ltb (at + length rest) (length t) (omega (arith, l, length-drop at t)))

-- An equation settles what it is of: two that equal one are equal. Assumes nothing.
use mathlib.Core.Path.{◌≡◌, sym, ◌∙◌}
use seplogic.Ra.Ura.{Ura}
use base.Logic.{ent, sep, via, mono_r, fst∗, snd∗}
use contract.Monad.{conj, conj_l, conj_r, conj_mono, fact, fact_i, fact_use}

pub same : {A : Type 0} {d x y : A} → x ≡ d → y ≡ d → x ≡ y
same p q = p ∙ sym q

module _ {M : Type 1} (𝓤 : Ura M) where
  -- two promises that are facts
  pub both : {φ ψ χ : Type 0} → (φ → ψ → χ) → ent 𝓤 (conj 𝓤 (fact 𝓤 φ) (fact 𝓤 ψ)) (fact 𝓤 χ)
  both {φ} {ψ} {χ} f =
      fact_use 𝓤 φ (conj_l 𝓤 (fact 𝓤 φ) (fact 𝓤 ψ)) (λ p.
      fact_use 𝓤 ψ (conj_r 𝓤 (fact 𝓤 φ) (fact 𝓤 ψ)) (λ q.
      fact_i 𝓤 χ (conj 𝓤 (fact 𝓤 φ) (fact 𝓤 ψ)) (f p q)))

  -- two clauses are one fact
  joined : (φ ψ : Type 0) → ent 𝓤 (sep 𝓤 (fact 𝓤 φ) (fact 𝓤 ψ)) (fact 𝓤 (φ × ψ))
  joined φ ψ =
      fact_use 𝓤 φ (fst∗ 𝓤 (fact 𝓤 φ) (fact 𝓤 ψ)) (λ p.
      fact_use 𝓤 ψ (snd∗ 𝓤 (fact 𝓤 φ) (fact 𝓤 ψ)) (λ q.
      fact_i 𝓤 (φ × ψ) (sep 𝓤 (fact 𝓤 φ) (fact 𝓤 ψ)) (p, q)))

  -- three clauses are one fact
  all_joined : (φ ψ χ : Type 0) → ent 𝓤 (sep 𝓤 (fact 𝓤 φ) (sep 𝓤 (fact 𝓤 ψ) (fact 𝓤 χ))) (fact 𝓤 (φ × (ψ × χ)))
  all_joined φ ψ χ = via 𝓤 _ (mono_r 𝓤 (fact 𝓤 φ) (joined ψ χ)) (joined φ (ψ × χ))

  -- an answer, where nothing is lent
  pub by_answer : {R L : Type 0} {d r s : R} {l : L} → ent 𝓤 (conj 𝓤 (fact 𝓤 (r ≡ d)) (fact 𝓤 (s ≡ d))) (fact 𝓤 (◌≡◌ {A = R × L} (r, l) (s, l)))
  by_answer {l = l} = both (λ p q i. (same p q i, l))

  -- an answer, by the first of two clauses
  pub by_first : {R L : Type 0} {d r s : R} {φ ψ : Type 0} {l : L} →
      ent 𝓤 (conj 𝓤 (sep 𝓤 (fact 𝓤 (r ≡ d)) (fact 𝓤 φ)) (sep 𝓤 (fact 𝓤 (s ≡ d)) (fact 𝓤 ψ))) (fact 𝓤 (◌≡◌ {A = R × L} (r, l) (s, l)))
  by_first {d = d} {r} {s} {φ} {ψ} = via 𝓤 _ (conj_mono 𝓤 (fst∗ 𝓤 (fact 𝓤 (r ≡ d)) (fact 𝓤 φ)) (fst∗ 𝓤 (fact 𝓤 (s ≡ d)) (fact 𝓤 ψ))) by_answer

  -- an answer, by the first of three clauses
  pub by_first_of_three : {R L : Type 0} {d r s : R} {φ ψ φ' ψ' : Type 0} {l : L} →
      ent 𝓤 (conj 𝓤 (sep 𝓤 (fact 𝓤 (r ≡ d)) (sep 𝓤 (fact 𝓤 φ) (fact 𝓤 ψ))) (sep 𝓤 (fact 𝓤 (s ≡ d)) (sep 𝓤 (fact 𝓤 φ') (fact 𝓤 ψ'))))
      (fact 𝓤 (◌≡◌ {A = R × L} (r, l) (s, l)))
  by_first_of_three {d = d} {r} {s} {φ} {ψ} {φ'} {ψ'} =
      via 𝓤 _ (conj_mono 𝓤 (mono_r 𝓤 (fact 𝓤 (r ≡ d)) (joined φ ψ)) (mono_r 𝓤 (fact 𝓤 (s ≡ d)) (joined φ' ψ'))) by_first

  -- an answer and the lent buffer, a clause to each; `put` says which of the parameters the buffer is
  pub by_buffer : {R W L : Type 0} (put : W → L) {d r s : R} {e v w : W} →
      ent 𝓤 (conj 𝓤 (sep 𝓤 (fact 𝓤 (r ≡ d)) (fact 𝓤 (v ≡ e))) (sep 𝓤 (fact 𝓤 (s ≡ d)) (fact 𝓤 (w ≡ e))))
      (fact 𝓤 (◌≡◌ {A = R × L} (r, put v) (s, put w)))
  by_buffer put {d} {r} {s} {e} {v} {w} =
      via 𝓤 _ (conj_mono 𝓤 (joined (r ≡ d) (v ≡ e)) (joined (s ≡ d) (w ≡ e))) (both (λ p q i. (same p.0 q.0 i, put (same p.1 q.1 i))))

  -- an answer and the lent buffer, by the first two of three clauses
  pub by_buffer_of_three : {R W L : Type 0} (put : W → L) {d r s : R} {e v w : W} {φ ψ : Type 0} →
      ent 𝓤 (conj 𝓤 (sep 𝓤 (fact 𝓤 (r ≡ d)) (sep 𝓤 (fact 𝓤 (v ≡ e)) (fact 𝓤 φ))) (sep 𝓤 (fact 𝓤 (s ≡ d)) (sep 𝓤 (fact 𝓤 (w ≡ e)) (fact 𝓤 ψ))))
      (fact 𝓤 (◌≡◌ {A = R × L} (r, put v) (s, put w)))
  by_buffer_of_three put {d} {r} {s} {e} {v} {w} {φ} {ψ} =
      via 𝓤 _ (conj_mono 𝓤 (all_joined (r ≡ d) (v ≡ e) φ) (all_joined (s ≡ d) (w ≡ e) ψ)) (both (λ p q i. (same p.0 q.0 i, put (same p.1.0 q.1.0 i))))

  -- an answer and the lent chip, a clause to each
  pub by_chip : {R C L : Type 0} {d r s : R} {e b c : C} {l : L} →
      ent 𝓤 (conj 𝓤 (sep 𝓤 (fact 𝓤 (r ≡ d)) (fact 𝓤 (b ≡ e))) (sep 𝓤 (fact 𝓤 (s ≡ d)) (fact 𝓤 (c ≡ e))))
      (fact 𝓤 (◌≡◌ {A = R × (C × L)} (r, (b, l)) (s, (c, l))))
  by_chip {l = l} = by_buffer (λ b. (b, l))

  -- an answer, the lent chip and the lent buffer, a clause to each
  pub by_chip_and_buffer : {R C W L : Type 0} {d r s : R} {e b c : C} {f v w : W} {l : L} →
      ent 𝓤 (conj 𝓤 (sep 𝓤 (fact 𝓤 (r ≡ d)) (sep 𝓤 (fact 𝓤 (b ≡ e)) (fact 𝓤 (v ≡ f)))) (sep 𝓤 (fact 𝓤 (s ≡ d)) (sep 𝓤 (fact 𝓤 (c ≡ e)) (fact 𝓤 (w ≡ f)))))
      (fact 𝓤 (◌≡◌ {A = R × (C × (W × L))} (r, (b, (v, l))) (s, (c, (w, l)))))
  by_chip_and_buffer {d = d} {r} {s} {e} {b} {c} {f} {v} {w} {l} =
      via 𝓤 _ (conj_mono 𝓤 (all_joined (r ≡ d) (b ≡ e) (v ≡ f)) (all_joined (s ≡ d) (c ≡ e) (w ≡ f)))
      (both (λ p q i. (same p.0 q.0 i, (same p.1.0 q.1.0 i, (same p.1.1 q.1.1 i, l)))))

  -- a lent array, where nothing is answered; `put` as above
  pub by_array : {W L : Type 0} (put : W → L) {r s : Unit {0}} {e v w : W} → ent 𝓤 (conj 𝓤 (fact 𝓤 (v ≡ e)) (fact 𝓤 (w ≡ e))) (fact 𝓤 (◌≡◌ {A = Unit {0} × L} (r, put v) (s, put w)))
  by_array put = both (λ p q i. (tt, put (same p q i)))

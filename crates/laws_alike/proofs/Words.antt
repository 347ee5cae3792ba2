-- A word reads neither the variant nor what a channel last gave, but for its value and what the channels give. Assumes nothing.
use mathlib.Core.Bool.{Bool}
use mathlib.Core.List.{◌∷◌, ◌++◌, map}
use mathlib.Core.Path.{◌≡◌, refl, sym, ap, ap₂, ◌∙◌}
use Prim.Native.Nat.{ℕ, zero, suc, ◌+◌}
use Rattle.laws.proofs.Tests.{by_cond}
use Rattle.channel.specs.declared.Drum.{Drum}
use Rattle.channel.specs.declared.Drum.TheVariants.{Off, Sample}
use Rattle.channel.specs.declared.Channel.{Channel}
use Rattle.channel.specs.declared.Heard.{Heard}
use Rattle.channel.specs.Channel.{heard, heard_by, sounded}
use Rattle.mixer.specs.Mix.{mixed}
use Rattle.chip.specs.declared.Chip.{Chip}
use Rattle.clocking_word.specs.Word.{drained, ran_of, mixed_of, word_of}
use Rattle.clocking_block.specs.Block.{after_one, after_words, applied_of, ticks_of}
use Rattle.laws_promises.specs.History.{Entry, entry_of, entries}
use Rattle.laws_alike.specs.Claims.{shared_channel, shared, shared_entry}

-- what is the same for a chip and for what it shares is the same for two chips that share it
pub alike-by : {A : Type 0} (f : Chip → A) {c d : Chip} → f c ≡ f (shared c) → f d ≡ f (shared d) → shared c ≡ shared d → f c ≡ f d
alike-by f p q e = p ∙ ap f e ∙ sym q

-- a channel keeps its mute and drum
heard-shared : (x : Channel) (gated ungated : ℕ) (half : Bool) → shared_channel (heard x gated ungated half).channel ≡ shared_channel x
unfolding heard
heard-shared x gated ungated half =
    by_cond (λ (r : Heard). shared_channel r.channel ≡ shared_channel x) x.muted _ _ (λ _. refl) (λ _. by-drum x.drum)
  where
    by-drum : (d : Drum) → shared_channel (heard_by d x gated ungated half).channel ≡ shared_channel x
    by-drum (Sample s) = refl
    by-drum Off = refl

sounded-shared : (variant : ℕ) (x : Channel) (volume : ℕ) (half : Bool) (envelope gate : ℕ)
    → shared_channel (sounded variant x volume half envelope gate).channel ≡ shared_channel x
unfolding sounded
sounded-shared variant x volume half envelope gate = heard-shared x _ _ half

-- one word
one-shared : (c : Chip) → shared (after_one c) ≡ shared (after_one (shared c))
unfolding word_of drained ran_of mixed_of mixed
one-shared c = simp sounded-shared

entry-shared : (c : Chip) → shared_entry (entry_of c) ≡ shared_entry (entry_of (shared c))
unfolding word_of drained ran_of
entry-shared c = refl

module _ (c d : Chip) (e : shared c ≡ shared d) where
  one_alike : shared (after_one c) ≡ shared (after_one d)
  one_alike = alike-by (λ (x : Chip). shared (after_one x)) (one-shared c) (one-shared d) e

  entry-alike : shared_entry (entry_of c) ≡ shared_entry (entry_of d)
  entry-alike = alike-by (λ (x : Chip). shared_entry (entry_of x)) (entry-shared c) (entry-shared d) e

-- n words
pub words-alike : (n : ℕ) (c d : Chip) → shared c ≡ shared d → shared (after_words n c) ≡ shared (after_words n d)
unfolding after_words
words-alike zero c d e = e
words-alike (suc n) c d e = words-alike n (after_one c) (after_one d) (one_alike c d e)

pub entries-alike : (n : ℕ) (c d : Chip) → shared c ≡ shared d → map shared_entry (entries n c) ≡ map shared_entry (entries n d)
unfolding entries
entries-alike zero c d e = refl
entries-alike (suc n) c d e = ap₂ ◌∷◌ (entry-alike c d e) (entries-alike n (after_one c) (after_one d) (one_alike c d e))

pub applied-alike : (n : ℕ) (c d : Chip) → shared c ≡ shared d → applied_of n c ≡ applied_of n d
unfolding applied_of
applied-alike zero c d e = refl
applied-alike (suc n) c d e =
    ap₂ ◌++◌ (ap (λ (w : Entry). w.applied) (entry-alike c d e)) (applied-alike n (after_one c) (after_one d) (one_alike c d e))

pub ticks-alike : (n : ℕ) (c d : Chip) → shared c ≡ shared d → ticks_of n c ≡ ticks_of n d
unfolding ticks_of
ticks-alike zero c d e = refl
ticks-alike (suc n) c d e =
    ap₂ ◌+◌ (ap (λ (w : Entry). w.ticks) (entry-alike c d e)) (ticks-alike n (after_one c) (after_one d) (one_alike c d e))

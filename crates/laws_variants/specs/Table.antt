-- 02's request 05 in worked cases: a row to a case, its values those of variants 0, 1 and 2. Assumes nothing.
use Rattle.std.specs.Prelude.{List, [], ◌∷◌, map, ◌≡◌, ℕ, replicate}
use Rattle.drums.specs.Drums.{float, quotient}
use Rattle.channel.specs.declared.Channel.{Channel}
use Rattle.chip.specs.declared.Chip.{Chip}
use Rattle.answers.specs.Answers.{answered, byte_answer}
use Rattle.calls_making.specs.Making.{fresh, with_variant, reset_call}
use Rattle.calls_registers.specs.Stored.{load_registers, read_register}
use Rattle.calls_words.specs.Blocks.{blocked, block_buffer, sampled}

-- a chip of 2,000,000 and 250,000, one tick to a word
unfoldable pub of_variant : ℕ → Chip
of_variant variant = (with_variant 2000000 250000 variant).chip

-- it, with R0 to R13 written; its first n words
unfoldable pub loaded_with : List ℕ → ℕ → Chip
loaded_with bytes variant = (load_registers bytes (of_variant variant)).chip

abbrev pub first_words : ℕ → List ℕ → ℕ → List ℕ
first_words n bytes variant = block_buffer (replicate n 0) (loaded_with bytes variant)

-- what channel A keeps of the first word
abbrev pub kept_by_a : List ℕ → ℕ → Channel
kept_by_a bytes variant = (blocked 1 (loaded_with bytes variant)).chip.core.channels.a

abbrev pub three : List ℕ
three = 0 ∷ 1 ∷ 2 ∷ []

-- 01's dump; three fixed volumes of 15; A by the envelope, which rises once
abbrev pub worked : List ℕ
worked = 0x02 ∷ 0 ∷ 0 ∷ 0 ∷ 0 ∷ 0 ∷ 0 ∷ 0x3e ∷ 0x0f ∷ 0 ∷ 0 ∷ 0 ∷ 0 ∷ 0 ∷ 0 ∷ 0 ∷ []

abbrev pub loudest : List ℕ
loudest = 2 ∷ 0 ∷ 2 ∷ 0 ∷ 2 ∷ 0 ∷ 0 ∷ 0x3f ∷ 0x0f ∷ 0x0f ∷ 0x0f ∷ 0 ∷ 0 ∷ 0 ∷ 0 ∷ 0 ∷ []

abbrev pub rising : List ℕ
rising = 2 ∷ 0 ∷ 0 ∷ 0 ∷ 0 ∷ 0 ∷ 0 ∷ 0x3f ∷ 0x1f ∷ 0 ∷ 0 ∷ 0 ∷ 0 ∷ 0x0d ∷ 0 ∷ 0 ∷ []

pub record Table : Type 0 where
  -- 01's dump, its four words.
  pub dump : map (first_words 4 worked) three
      ≡ (9234 ∷ 100 ∷ 100 ∷ 9234 ∷ []) ∷ (10972 ∷ 100 ∷ 100 ∷ 10972 ∷ []) ∷ (9234 ∷ 100 ∷ 100 ∷ 9234 ∷ []) ∷ []
  -- Volumes 15, periods 2, R7 0x3f: variant 1 reaches the highest word by fixed volumes.
  pub highest : map (first_words 1 loudest) three ≡ (27552 ∷ []) ∷ (32766 ∷ []) ∷ (27552 ∷ []) ∷ []
  -- R8 0x1f, R13 0x0d, A's period 2, the first five words: levels 1 to 5, and in variant 2 0, 2, 2, 4, 4.
  pub steps : map (first_words 5 rising) three
      ≡ (110 ∷ 121 ∷ 135 ∷ 151 ∷ 170 ∷ []) ∷ (110 ∷ 121 ∷ 135 ∷ 151 ∷ 170 ∷ []) ∷ (100 ∷ 121 ∷ 121 ∷ 151 ∷ 151 ∷ []) ∷ []
  -- A fresh chip: first word 75.
  pub first_word : map (λ v. (sampled (of_variant v)).answer.word) three ≡ 75 ∷ 75 ∷ 75 ∷ []
  -- R8 reads back what was stored.
  pub read_back : map (λ v. read_register 8 (loaded_with rising v)) three ≡ byte_answer 0 0x1f ∷ byte_answer 0 0x1f ∷ byte_answer 0 0x1f ∷ []
  -- "used" is the index ahead of the gate: in variant 1 volume 15 has amplitude 1.0; in variant 2 an envelope level of 1 is index 0, whose
  -- output is 0.0, and whose amplitude is that of level 50.
  pub amplitude : (kept_by_a loudest 1).amplitude ≡ float 1
  pub output : (kept_by_a rising 2).output ≡ float 0
  pub cleared-amplitude : (kept_by_a rising 2).amplitude ≡ quotient (float 50) (float 10922)
  -- Making with variant 3, good clocks: 13, default; so with 255. Of refused clocks 1, 2 and 3 come first.
  pub variant-3 : with_variant 2000000 250000 3 ≡ answered 13 fresh
  pub variant-255 : with_variant 2000000 250000 255 ≡ answered 13 fresh
  pub no-1 : with_variant 1073741824 250000 3 ≡ answered 1 fresh
  pub no-2 : with_variant 2000000 0 3 ≡ answered 2 fresh
  pub no-3 : with_variant 2000000 250001 3 ≡ answered 3 fresh
  -- A refused making leaves variant 0, whatever was asked for.
  pub refused : (with_variant 2000000 250001 2).chip.core.variant ≡ 0
  -- Reset keeps the variant.
  pub reset : map (λ v. (reset_call (of_variant v)).chip.core.variant) three ≡ three

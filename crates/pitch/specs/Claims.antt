-- What is claimed of the answers. 02, request 12. Nothing here is proved; `nearest-is : NearestIs` and `one-nearest : OneNearest` are, in
-- `proofs/Walk.antt`, `worked : Worked` in `proofs/Dividing.antt`, the others in `proofs/Answers.antt`. Assumes nothing.
--
-- The idea of the proof: tones fall as periods rise. Of two tones at the pitch or above it the higher period's is nearer, of two at the
-- pitch or below it the lower period's; so the nearest period is one of the two around the quotient, or an end of the range.
use Rattle.std.specs.Prelude.{true, List, ◌↔◌, ◌≡◌, ℕ, ◌*◌, ◌≤◌, ◌<◌, length, get_or, Ok}
use Rattle.pitch.specs.Pitch.{off, nearest_to, nearest_period, each_nearest, are_nearest}

-- "a master clock from 8 to 1,073,741,823 and a pitch in whole millihertz from 1 to 20,000,000"
abbrev pub MasterIn : ℕ → Type 0
MasterIn master = (8 ≤ master) × (master ≤ 1073741823)

abbrev pub PitchIn : ℕ → Type 0
PitchIn pitch = (1 ≤ pitch) × (pitch ≤ 20000000)

-- "the period from 2 to 4,095"
abbrev pub Playable : ℕ → Type 0
Playable t = (2 ≤ t) × (t ≤ 4095)

pub record IsNearest (master pitch t : ℕ) : Type 0 where
  pub playable : Playable t
  -- "No period in that range is nearer, stated over whole numbers by comparing fractions": off t / t is at most off s / s.
  pub none-nearer : (s : ℕ) → Playable s → off master pitch t * s ≤ off master pitch s * t
  -- "on a tie the smaller period"
  pub smaller : (s : ℕ) → Playable s → off master pitch t * s ≡ off master pitch s * t → t ≤ s

-- What the walk of the definition ends at is nearest, and no two periods are.
abbrev pub NearestIs : Type 0
NearestIs = (master pitch : ℕ) → IsNearest master pitch (nearest_to master pitch)

abbrev pub OneNearest : Type 0
OneNearest = (master pitch s t : ℕ) → IsNearest master pitch s → IsNearest master pitch t → s ≡ t

-- An accepted answer of the first call is nearest.
abbrev pub Finds : Type 0
Finds = (master pitch t : ℕ) → nearest_period master pitch ≡ Ok t → IsNearest master pitch t

-- "each period is that one"
abbrev pub EachIs : ℕ → List ℕ → List ℕ → Type 0
EachIs master pitches periods = (i : ℕ) → i < length pitches → IsNearest master (get_or pitches i 0) (get_or periods i 0)

-- "says yes exactly if each period is that one": of lists of one length,
abbrev pub YesExactly : Type 0
YesExactly = (master : ℕ) (pitches periods : List ℕ) → length pitches ≡ length periods
    → (each_nearest master pitches periods ≡ true) ↔ EachIs master pitches periods

-- and of the call: a yes is never said where something is refused.
pub record Right (master : ℕ) (pitches periods : List ℕ) : Type 0 where
  pub master-in : MasterIn master
  pub same : length pitches ≡ length periods
  pub pitches-in : (i : ℕ) → i < length pitches → PitchIn (get_or pitches i 0)
  pub each : EachIs master pitches periods

abbrev pub SaysYes : Type 0
SaysYes = (master : ℕ) (pitches periods : List ℕ) → (are_nearest master pitches periods ≡ Ok true) ↔ Right master pitches periods

-- Worked: A4 and C4 at 2,000,000. The quotient 1,000 × master / (16 × pitch) is 2.4, a tie, and the smaller period; 2.45, which a rounding
-- would make 2. Midway between the tones of 4 and 5. Above every tone, and below every one.
pub record Worked : Type 0 where
  pub a4 : nearest_to 2000000 440000 ≡ 284
  pub c4 : nearest_to 2000000 261626 ≡ 478
  pub change : nearest_to 768000 20000000 ≡ 2
  pub rounded : nearest_to 784000 20000000 ≡ 3
  pub tie : nearest_to 1000000 14062500 ≡ 4
  pub above : nearest_to 8 20000000 ≡ 2
  pub below : nearest_to 2000000 1 ≡ 4095

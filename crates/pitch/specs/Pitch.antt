-- Nearest period for a wanted note. 02, request 12. Assumes nothing.
use Rattle.std.specs.Prelude.{Bool, true, false, cond, List, [], ◌∷◌, ℕ, zero, suc, ◌+◌, ◌-◌, ◌*◌, eqb, leb, ltb, length, Result, Ok, Err}
use Rattle.laws.specs.All.{every}
use Rattle.refusals.specs.Numbers.{accepted, number_of}
use Rattle.refusals.specs.declared.Refusal.{Refusal}
use Rattle.refusals.specs.declared.Refusal.TheVariants.{MasterTooHigh, PitchOutOfRange, ListsDiffer}
use Rattle.pitch.specs.declared.Found.{Found}
use Rattle.pitch.specs.declared.Checked.{Checked}

-- "Given a master clock from 8 to 1,073,741,823 and a pitch in whole millihertz from 1 to 20,000,000"
unfoldable pub master_in : ℕ → Bool
master_in master = cond (ltb master 8) false (leb master 1073741823)

unfoldable pub pitch_in : ℕ → Bool
pitch_in pitch = cond (eqb pitch 0) false (leb pitch 20000000)

-- what lies between two numbers
abbrev pub apart : ℕ → ℕ → ℕ
apart a b = (a - b) + (b - a)

-- The tone of period t, "master / (16 × period)" in hertz, and the pitch, so many thousandths of a hertz, over the one denominator
-- 16,000 × t: 1,000 × master and t × 16 × pitch. How far the tone is from the pitch is `off` over 16,000 × t.
unfoldable pub off : ℕ → ℕ → ℕ → ℕ
off master pitch t = apart (1000 * master) (t * (16 * pitch))

-- "nearest in hertz", "by comparing fractions": s is nearer than t where off s / s is less than off t / t.
abbrev pub nearer : ℕ → ℕ → ℕ → ℕ → Bool
nearer master pitch s t = ltb (off master pitch s * t) (off master pitch t * s)

-- "find the period from 2 to 4,095": from 2 up, and a higher one only where it is nearer, so "on a tie the smaller period". Of the periods
-- 2 to n + 2:
unfoldable pub nearest_of : ℕ → ℕ → ℕ → ℕ
nearest_of zero master pitch = 2
nearest_of (suc n) master pitch =
    let t = nearest_of n master pitch in
    cond (nearer master pitch (n + 3) t) (n + 3) t

-- of 2 to 4,095
unfoldable pub nearest_to : ℕ → ℕ → ℕ
nearest_to master pitch = nearest_of 4093 master pitch

-- "Refusals, in this order: 1, here also for a master below 8; .. 19, a pitch of 0 or above 20,000,000."
unfoldable pub nearest_period : ℕ → ℕ → Result ℕ Refusal
nearest_period master pitch =
    cond (master_in master)
    (cond (pitch_in pitch) (Ok (nearest_to master pitch)) (Err PitchOutOfRange))
    (Err MasterTooHigh)

-- "A refusal returns period 0"
unfoldable pub found : Result ℕ Refusal → Found
found (Ok t) = record { no = accepted; period = t }
found (Err why) = record { no = number_of why; period = 0 }

-- "says yes exactly if each period is that one"; "empty lists are a yes". Lists of one length come here.
unfoldable pub each_nearest : ℕ → List ℕ → List ℕ → Bool
each_nearest master [] periods = true
each_nearest master (p ∷ pitches) [] = true
each_nearest master (p ∷ pitches) (t ∷ periods) = cond (eqb t (nearest_to master p)) (each_nearest master pitches periods) false

-- "in this order: 1 ..; 20, two lists of different lengths; 19, a pitch of 0 or above 20,000,000", of any pitch of the list
unfoldable pub are_nearest : ℕ → List ℕ → List ℕ → Result Bool Refusal
are_nearest master pitches periods =
    cond (master_in master)
    (cond (eqb (length pitches) (length periods))
    (cond (every pitch_in pitches) (Ok (each_nearest master pitches periods))
    (Err PitchOutOfRange))
    (Err ListsDiffer))
    (Err MasterTooHigh)

-- "A refusal returns .. no"
unfoldable pub checked : Result Bool Refusal → Checked
checked (Ok right) = record { no = accepted; yes = right }
checked (Err why) = record { no = number_of why; yes = false }

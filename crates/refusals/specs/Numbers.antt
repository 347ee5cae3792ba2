-- Numbers a call can answer. 01, the table of that name, with 02's later numbers. Assumes nothing.
use Rattle.std.specs.Prelude.{ℕ, Result, Ok, Err}
use Rattle.refusals.specs.declared.Refusal.{Refusal}
use Rattle.refusals.specs.declared.Refusal.TheVariants.{MasterTooHigh, RateZero, RateTooHigh, QueueFull, BlockTooLong, BlockTooLate, NoSuchChannel, LineNotOfForm, SizeOutOfRange, BytesAfterTheEnd, DumpTooLong, StampLower, NoSuchVariant, PitchOutOfRange, ListsDiffer, OutOfRange}

-- accepted
abbrev pub accepted : ℕ
accepted = 0

-- master clock above 1,073,741,823; of the nearest period also one below 8 (02, request 12)
abbrev pub master_too_high : ℕ
master_too_high = 1

-- sample rate 0
abbrev pub rate_zero : ℕ
rate_zero = 2

-- sample rate above master / 8, rounded down
abbrev pub rate_too_high : ℕ
rate_too_high = 3

-- data write bound for the queue while 256 writes wait
abbrev pub queue_full : ℕ
queue_full = 4

-- block buffer longer than 65,536 words
abbrev pub block_too_long : ℕ
block_too_long = 5

-- block's last word would end past cycle 2^64 - 1
abbrev pub block_too_late : ℕ
block_too_late = 6

-- mute or drum for channel 3 or above
abbrev pub no_such_channel : ℕ
no_such_channel = 7

-- dump line missing or not of its form; a capture's too (02, request 01), and so for 10 and 11
abbrev pub line_not_of_form : ℕ
line_not_of_form = 8

-- `words` or `frames` out of range; of a capture `writes`, `words`, `at` or `port`
abbrev pub size_out_of_range : ℕ
size_out_of_range = 9

-- bytes after the last line due
abbrev pub bytes_after_the_end : ℕ
bytes_after_the_end = 10

-- dump longer than 65,536 bytes
abbrev pub dump_too_long : ℕ
dump_too_long = 11

-- capture: stamp lower than the one before (02, request 01)
abbrev pub stamp_lower : ℕ
stamp_lower = 12

-- a chip made with a variant above 2 (02, request 05)
abbrev pub no_such_variant : ℕ
no_such_variant = 13

-- a pitch of 0 or above 20,000,000 (02, request 12)
abbrev pub pitch_out_of_range : ℕ
pitch_out_of_range = 19

-- two lists of different lengths (02, request 12)
abbrev pub lists_differ : ℕ
lists_differ = 20

-- a handed-in chip record out of range
abbrev pub out_of_range : ℕ
out_of_range = 22

-- the number of each refusal that the code names
abbrev pub number_of : Refusal → ℕ
number_of MasterTooHigh = master_too_high
number_of RateZero = rate_zero
number_of RateTooHigh = rate_too_high
number_of QueueFull = queue_full
number_of BlockTooLong = block_too_long
number_of BlockTooLate = block_too_late
number_of NoSuchChannel = no_such_channel
number_of LineNotOfForm = line_not_of_form
number_of SizeOutOfRange = size_out_of_range
number_of BytesAfterTheEnd = bytes_after_the_end
number_of DumpTooLong = dump_too_long
number_of StampLower = stamp_lower
number_of NoSuchVariant = no_such_variant
number_of PitchOutOfRange = pitch_out_of_range
number_of ListsDiffer = lists_differ
number_of OutOfRange = out_of_range

-- what a test answers: 0, or the number of its refusal
abbrev pub answer_no : {A : Type 0} → Result A Refusal → ℕ
answer_no (Ok _) = accepted
answer_no (Err why) = number_of why

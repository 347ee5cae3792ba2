-- How far the player's output has been handed out. 01, "The dump player". Assumes nothing.
use Rattle.std.specs.Prelude.{Bool, true, false, cond, ℕ, ◌+◌, ◌-◌, ◌/◌, min, ltb}
use Rattle.dump_progress.specs.declared.Progress.{Progress}

-- before the first byte
abbrev pub nothing_given : Progress
nothing_given = record { begun = false; frames = 0; left = 0 }

abbrev pub first_line_given : Progress → Progress
first_line_given p = record { begun = true; frames = p.frames; left = p.left }

-- A frame is due once no word of the one before is left.
unfoldable pub frame_due : ℕ → Progress → Bool
frame_due frames p = cond (ltb 0 p.left) false (ltb p.frames frames)

-- It begins with all its words left.
abbrev pub frame_begins : ℕ → Progress → Progress
frame_begins words p = record { begun = p.begun; frames = p.frames + 1; left = words }

-- As many of the words left as there is room for: a word's line has six bytes at most. A frame has 4,096 words at most, and so has a piece.
abbrev pub words_in : ℕ → ℕ → ℕ
words_in room left = min (min left 4096) (room / 6)

abbrev pub words_for : ℕ → Progress → ℕ
words_for room p = words_in room p.left

abbrev pub words_given : ℕ → Progress → Progress
words_given n p = record { begun = p.begun; frames = p.frames; left = p.left - n }

-- One line of a text, and its value. 01, "The dump player": "Lines end in one LF". Assumes nothing.
use Rattle.std.specs.Prelude.{ℕ, suc, ◌+◌, ◌-◌, Bool, true, false, cond, List, [], ◌∷◌, ltb, eqb, length, take, drop}
use Rattle.text_lines.specs.declared.Line.{Line}

-- how many bytes stand before the first LF; all of them where there is none
unfoldable pub span : List ℕ → ℕ
span [] = 0
span (b ∷ bs) =
    let more = suc (span bs) in
    cond (eqb b 10) 0 more

abbrev pub end_at : List ℕ → ℕ → ℕ
end_at text at = at + span (drop at text)

-- the line at a place: where its bytes start and end, where the next line starts, and whether an LF ends it
unfoldable pub line_at : List ℕ → ℕ → Line
line_at text at =
    cond (ltb (end_at text at) (length text))
    (record { start = at; end = end_at text at; next = end_at text at + 1; whole = true })
    (record { start = at; end = end_at text at; next = end_at text at; whole = false })

-- its bytes, without the LF
abbrev pub bytes_at : List ℕ → ℕ → List ℕ
bytes_at text at = take ((line_at text at).end - at) (drop at text)

-- the line's first bytes are the key
unfoldable pub starts_with : List ℕ → List ℕ → Bool
starts_with [] line = true
starts_with (k ∷ ks) [] = false
starts_with (k ∷ ks) (b ∷ bs) = cond (eqb k b) (starts_with ks bs) false

-- the value of the line at a place: what stands after the key; nothing where the line is missing or has another key
unfoldable pub value_at : List ℕ → List ℕ → ℕ → List ℕ
value_at key text at =
    cond (line_at text at).whole
    (cond (starts_with key (bytes_at text at)) (drop (length key) (bytes_at text at)) [])
    []

-- The four header lines. 01, "The dump player": "A dump reader carries the text and its place from line to line". Assumes nothing.
use Rattle.std.specs.Prelude.{ℕ, List}
use Rattle.text_lines.specs.Lines.{line_at}
use Rattle.dump_reader.specs.declared.FirstLines.{FirstLines}

-- each line stands where the one before it ends, the first at 0
unfoldable pub first_lines : List ℕ → FirstLines
first_lines text =
    let one = line_at text 0 in
    let two = line_at text one.next in
    let three = line_at text two.next in
    let four = line_at text three.next in
    record { one = one; two = two; three = three; four = four }

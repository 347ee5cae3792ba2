-- The frames' lines, one after another. 01, "The dump player": "A dump reader carries the text and its place from line to line". Assumes nothing.
use Rattle.std.specs.Prelude.{ℕ, zero, suc, ◌+◌, cond, List}
use Rattle.text_lines.specs.Lines.{line_at}
use Rattle.dump_lines.specs.OneLine.{frame_at}
use Rattle.dump_body.specs.declared.FramesRead.{FramesRead}

-- n frames more
abbrev pub counted : ℕ → FramesRead → FramesRead
counted n r = record { count = n + r.count; at = r.at }

-- Up to `left` lines are read from a place on, until one is not of its form: how many have it, and the place after the last line read.
unfoldable pub frames_read : List ℕ → ℕ → ℕ → FramesRead
frames_read text zero at = record { count = 0; at = at }
frames_read text (suc left) at =
    let next = (line_at text at).next in
    let more = frames_read text left next in
    cond (frame_at text at) (counted 1 more)
    (record { count = 0; at = next })

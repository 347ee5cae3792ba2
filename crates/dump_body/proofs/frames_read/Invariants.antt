-- The reader has the text, and what is left to read gives the whole.
use Rattle.std.specs.Prelude.{◌≡◌, ◌-◌}
use Rattle.dump_body.specs.Frames.{counted, frames_read}
use Rattle.dump_body.proofs.frames_read.Given as goal

abbrev pub invariant-loop-count : goal.invariant-loop-count
invariant-loop-count l = record {
  same_text : l.r.text.now ≡ l.text;
  rest : counted l.count (frames_read l.text (l.frames - l.count) l.r.at) ≡ frames_read l.text l.frames l.body;
}

-- `notes::tell` asks for the whole output: the room is enough, so that is what stands at its start (`answer-whole`). Assumes nothing.
use Rattle.notes_output.proofs.Answering.{answer-whole}
use Rattle.notes.proofs.tell.Goals as goal

pub write_whole-requires : goal.write_whole-requires
write_whole-requires g c = answer-whole c.args.text.now c.room-out.result c.room-out.ensures.long (c.answer-n.ensures.count, c.answer-n.ensures.buffer)

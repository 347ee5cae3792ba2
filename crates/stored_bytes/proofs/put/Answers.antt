-- `stored_bytes::put` meets its contract: at each of the fourteen places the byte is chosen where the register is that place. Assumes nothing.
use mathlib.Core.Path.{refl}
use borrow.Author.Rules.{rules}
use Rattle.stored_bytes.proofs.Choices.{put-chosen, chosen_more}
use Rattle.stored_bytes.proofs.put.Goals as goal

pub returns : goal.returns
returns c = put-chosen c.args.bytes c.args.register c.args.byte (search rules)
    (chosen_more c.chosen.ensures
    (chosen_more c.chosen-2.ensures
    (chosen_more c.chosen-3.ensures
    (chosen_more c.chosen-4.ensures
    (chosen_more c.chosen-5.ensures
    (chosen_more c.chosen-6.ensures
    (chosen_more c.chosen-7.ensures
    (chosen_more c.chosen-8.ensures
    (chosen_more c.chosen-9.ensures
    (chosen_more c.chosen-10.ensures
    (chosen_more c.chosen-11.ensures
    (chosen_more c.chosen-12.ensures
    (chosen_more c.chosen-13.ensures
    (chosen_more c.chosen-14.ensures refl))))))))))))))

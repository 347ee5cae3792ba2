-- `dump_player::give_first_line` meets its contract: a first line fits (`Giving`). Assumes nothing.
use Rattle.dump_player.proofs.Giving.{first-given}
use Rattle.dump_player.proofs.give_first_line.Goals as goal

pub returns : goal.returns
returns c =
    let put = c.put_first_line-length.ensures in
    let both = first-given c.args.player _ c.requires put.few c.first_line_given-progress.ensures put.place put.text in
    record { answer = both.0; buffer = both.1 }

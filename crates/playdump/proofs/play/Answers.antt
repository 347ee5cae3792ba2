-- `playdump::play` begins with the whole output to hand out. Assumes nothing.
use Rattle.std.proofs.Common.{subst, sym, ◌≡◌}
use Rattle.dump_played.specs.Whole.{printed}
use Rattle.laws_player.proofs.Standing.{Stands, rest_of, start-stands, rest-start}
use Rattle.playdump.proofs.play.Goals as goal

pub write_out-requires-clause-start : goal.write_out-requires-clause-start
write_out-requires-clause-start g c = subst (λ p. rest_of c.args.text.now p ≡ printed c.args.text.now) (sym c.start-player.ensures) (rest-start c.args.text.now)

pub write_out-requires-clause-stands : goal.write_out-requires-clause-stands
write_out-requires-clause-stands g c = subst (Stands c.args.text.now) (sym c.start-player.ensures) (start-stands c.args.text.now)

use Rattle.moves.proofs.MoveLaws.{reader_start}
use Rattle.moves.proofs.Moves.last_characters.Goals as goal

pub loop-i-init : goal.loop-i-init
loop-i-init c = rw (c.between-reader.ensures.0, c.between-reader.ensures.1) (reader_start c.requires)

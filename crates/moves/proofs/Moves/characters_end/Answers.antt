use Rattle.std.proofs.Common.{true}
use Rattle.moves.proofs.MoveLaws.{reader_start, passes_four, characters_none, characters_then}
use Rattle.moves.proofs.Moves.characters_end.Goals as goal

pub returns-then-s-lt-LONG : goal.returns-then-s-lt-LONG
returns-then-s-lt-LONG c = characters_none c.requires

pub loop-i-init : goal.loop-i-init
loop-i-init c = rw (c.between-reader.ensures.0, c.between-reader.ensures.1) (reader_start c.requires)

pub returns-then-reader-eq-NOWHERE : goal.returns-then-reader-eq-NOWHERE
returns-then-reader-eq-NOWHERE c =
    (passes_four c.loop-i.invariant c.pass-one.ensures c.pass-two.ensures
    c.pass-three.ensures c.pass-reader.ensures).whole

pub loop-i-preserved : goal.loop-i-preserved
loop-i-preserved c =
    passes_four c.loop-i.invariant c.pass-one.ensures c.pass-two.ensures
    c.pass-three.ensures c.pass-reader.ensures

pub last_characters-requires : goal.last_characters-requires
last_characters-requires c = (c.loop-i.invariant.whole.led true).within

pub returns : goal.returns
returns c = characters_then c.loop-i.invariant.whole c.last_characters.ensures

-- A step as it is written: its name is the bytes that stand in the query.
use Rattle.std.specs.Prelude.{[]}
use Rattle.query.specs.Grammar.{Short, Inner, Segment, is_deep, put_first, put_laters, put_chars, position_of}
use Rattle.query.specs.Grammar as G
use Rattle.query.specs.Steps.{Selector, Step}
use Rattle.query.specs.Steps as S

unfoldable pub short_written : Short → Selector
unfolding put_first put_laters
short_written Short.star = S.every
short_written (G.shorthand x cs) = S.name (put_first x (put_laters cs []))

unfoldable pub inner_written : Inner → Selector
unfolding put_chars position_of
inner_written Inner.star = S.every
inner_written (G.quoted q cs) = S.name (put_chars cs [])
inner_written (G.position p small) = S.position (position_of p)

unfoldable pub segment_written : Segment → Step
unfolding short_written inner_written
segment_written (G.dotted d x) = record { deep = is_deep d; selector = short_written x }
segment_written (G.bracketed d w i w') = record { deep = is_deep d; selector = inner_written i }

-- The prefix that is taken off is the code point in UTF-8. Assumes nothing.
use mathlib.Core.Path.{◌≡◌, ◌∙◌}
use mathlib.Core.List.{[]}
use Rattle.std.proofs.lemmas.Bool.Decides.{Decides-eqb}
use Rattle.std.proofs.lemmas.Slice.Eq.{strip_prefix_is}
use Rattle.encoding.specs.Points.{utf8}
use Rattle.names.proofs.after_point.Goals as goal

pub returns : goal.returns
returns c =
    let is : c.as_bytes.result.now ≡ utf8 c.args.point [] = c.as_bytes.ensures ∙ c.in_utf8-code.ensures in
    rw (← is) (strip_prefix_is Decides-eqb c.args.name.now c.as_bytes.result.now c.strip_prefix.result c.strip_prefix.ensures.cases)

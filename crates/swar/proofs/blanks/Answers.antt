use mathlib.Core.Path.{sym, ◌∙◌}
use Rattle.swar.specs.KindLaws.{space_blank}
use Rattle.swar.specs.Passing.{at_start, one_more, passed_on, passed_as, ends_at, ends_all}
use Rattle.swar.proofs.blanks.Goals as goal

pub loop-i-init : goal.loop-i-init
loop-i-init c = at_start c.requires

pub returns-then-not-is_blank : goal.returns-then-not-is_blank
returns-then-not-is_blank c =
    ends_at c.loop-i.invariant
    (sym c.is_blank.ensures ∙ c.if-not-is_blank.true)

pub loop-i-preserved : goal.loop-i-preserved
loop-i-preserved c =
    passed_on
    (one_more c.loop-i.invariant c.loop-i-test.true
    (sym c.is_blank.ensures ∙ c.if-not-is_blank.false))
    (passed_as space_blank c.passed-i.ensures)

pub returns : goal.returns
returns c = ends_all c.loop-i.invariant c.loop-i-test.false

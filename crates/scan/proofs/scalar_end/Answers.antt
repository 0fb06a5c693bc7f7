-- A scalar that begins with a quote is a string, and any other is a word. Assumes nothing.
use native.Mathlib.Omega.{arith}
use Rattle.scan.proofs.Laws.{scalar_none, scalar_string, scalar_word}
use Rattle.scan.proofs.scalar_end.Goals as goal

pub returns-then-at-s : goal.returns-then-at-s
returns-then-at-s c = scalar_none _ _ c.if-at-s.true c.requires

pub returns-then-s-at-eq-QUOTE : goal.returns-then-s-at-eq-QUOTE
returns-then-s-at-eq-QUOTE c = scalar_string _ _ _ (omega (arith, c.string_end.ensures.onward)) c.if-s-at-eq-QUOTE.true c.string_end.ensures

pub returns : goal.returns
returns c = scalar_word _ _ _ c.if-s-at-eq-QUOTE.false c.word_run.ensures

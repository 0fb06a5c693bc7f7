-- `query_parser::too_long` meets its contract: the place of the dead byte decides between grounds 1 and 2. Assumes nothing.
use Rattle.std.proofs.Common.{sym, ap, ◌∙◌}
use Rattle.encoding.specs.Refusals.{refused}
use Rattle.query.specs.Verdict.{overlong}
use Rattle.query.proofs.Says.{early, late}
use Rattle.query_parser.proofs.too_long.Goals as goal

pub returns-then-at-lt-MAX_QUERY_BYTES : goal.returns-then-at-lt-MAX_QUERY_BYTES
returns-then-at-lt-MAX_QUERY_BYTES c =
    ap refused c.wrong.ensures ∙ sym (early _ c.if-at-lt-MAX_QUERY_BYTES.true) ∙ ap overlong c.dead_place-at.ensures

pub returns : goal.returns
returns c = sym (late _ c.if-at-lt-MAX_QUERY_BYTES.false) ∙ ap overlong c.dead_place-at.ensures

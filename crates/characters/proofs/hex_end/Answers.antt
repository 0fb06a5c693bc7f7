use Rattle.std.proofs.Common.{arith}
use Rattle.characters.specs.Strings.{hex_start, hex_end_lem, hex_wrong, hex_more, hex_done}
use Rattle.characters.proofs.hex_end.Goals as goal
use Rattle.characters.proofs.hex_end.Goals.{then-i-s-via-then-i-s, then-i-s-via-else-i-s+then-not-is_ascii_hexdigit}

pub loop-i-init : goal.loop-i-init
loop-i-init c = λ f. hex_start f _ (omega arith) c.requires

pub returns-then-i-s : goal.returns-then-i-s
returns-then-i-s c =
    elim c.then-i-s.branch [
      | then-i-s-via-then-i-s w ↦ λ f. hex_end_lem f _ (c.loop-i.invariant f) (omega arith) w.if-i-s.true
      | then-i-s-via-else-i-s+then-not-is_ascii_hexdigit w ↦
          λ f. hex_wrong f _ (c.loop-i.invariant f) (omega arith) w.if-i-s.false w.if-not-is_ascii_hexdigit.ensures.cases
    ]

pub loop-i-preserved : goal.loop-i-preserved
loop-i-preserved c =
    λ f. hex_more f _ (c.loop-i.invariant f) (omega arith) c.if-i-s.false c.if-not-is_ascii_hexdigit.ensures.cases _ (omega arith)

pub returns : goal.returns
returns c = λ f. hex_done f _ (c.loop-i.invariant f) (omega arith) (omega arith)

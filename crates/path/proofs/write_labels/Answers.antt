use native.Mathlib.Omega.{arith}
use Rattle.path.specs.SlotsLaws.{within_at}
use Rattle.path.proofs.Turns.{root_fits, labels_fit, label_room, written_none, written_more, written_all, length-kept}
use Rattle.path.proofs.write_labels.Goals as goal

pub write_byte-at-requires : goal.write_byte-at-requires
write_byte-at-requires c = root_fits _ _ c.requires.1

pub loop-i-init : goal.loop-i-init
loop-i-init c = (omega arith, written_none _ c.args.links.now _ _)

pub write_label-at-requires : goal.write_label-at-requires
write_label-at-requires c =
    let room = labels_fit _ _ c.requires.1 c.write_byte-at.ensures in (
      within_at _ _ _ (omega (arith, c.loop-i.invariant.0)) c.requires.0,
      label_room _ _ c.loop-i-test.true c.loop-i.invariant.0 room c.loop-i.invariant.1,
    )

pub loop-i-preserved : goal.loop-i-preserved
loop-i-preserved c =
    let room = labels_fit _ _ c.requires.1 c.write_byte-at.ensures in (
      omega (arith, c.loop-i.invariant.0),
      written_more _ _ c.loop-i-test.true c.loop-i.invariant.0 room c.loop-i.invariant.1 c.write_label-at.ensures,
    )

pub shape_of-out : goal.shape_of-out
shape_of-out c = length-kept _ _ c.requires.1 c.write_byte-at.ensures c.loop-i-test.false c.loop-i.invariant.1

pub returns : goal.returns
returns c = written_all _ _ c.requires.1 c.write_byte-at.ensures c.loop-i-test.false c.loop-i.invariant.1

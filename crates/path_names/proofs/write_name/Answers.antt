use Prim.Native.Nat.{◌+◌}
use native.Mathlib.Omega.{arith}
use lib.ListN.{get_or}
use Rattle.escapes.specs.LeftLaws.{size_bounds}
use Rattle.path_names.specs.Pieces.{point_piece, byte_piece}
use Rattle.path_names.proofs.Left.{left, left_none, left_byte, left_escape}
use Rattle.text.specs.WritingLaws.{writing_start, writing_end, writing_room, writing_more}
use Rattle.path_names.proofs.write_name.Goals as goal

pub loop-i-init : goal.loop-i-init
loop-i-init c = writing_start (left c.args.name.now 0) c.args.at c.args.out.now

pub write_point-end-requires : goal.write_point-end-requires
write_point-end-requires c =
    let s = c.args.name.now in
    let i = c.loop-i.i in
    let e = c.escape_at-e.result in
    let parts = left_escape s i c.loop-i-test.true c.if-b-eq-BACKSLASH.true c.escape_at-e.ensures in
    (c.escape_at-e.ensures.ranged, writing_room c.loop-i.invariant c.requires (point_piece e.point) (left s (i + e.size)) parts)

pub overflow_add-i : goal.overflow_add-i
overflow_add-i c = omega (arith, (size_bounds c.escape_at-e.ensures).1)

pub loop-i-smaller-then-b-eq-BACKSLASH : goal.loop-i-smaller-then-b-eq-BACKSLASH
loop-i-smaller-then-b-eq-BACKSLASH c = omega (arith, (size_bounds c.escape_at-e.ensures).0)

pub loop-i-preserved-then-b-eq-BACKSLASH : goal.loop-i-preserved-then-b-eq-BACKSLASH
loop-i-preserved-then-b-eq-BACKSLASH c =
    let s = c.args.name.now in
    let i = c.loop-i.i in
    let e = c.escape_at-e.result in
    let parts = left_escape s i c.loop-i-test.true c.if-b-eq-BACKSLASH.true c.escape_at-e.ensures in
    writing_more c.loop-i.invariant c.requires (point_piece e.point) (left s (i + e.size)) parts c.write_point-end.ensures

pub write_rendered_byte-end-requires : goal.write_rendered_byte-end-requires
write_rendered_byte-end-requires c =
    let s = c.args.name.now in
    let i = c.loop-i.i in
    writing_room c.loop-i.invariant c.requires (byte_piece (get_or s i 0)) (left s (i + 1))
    (left_byte s i c.loop-i-test.true c.if-b-eq-BACKSLASH.false)

pub loop-i-preserved : goal.loop-i-preserved
loop-i-preserved c =
    let s = c.args.name.now in
    let i = c.loop-i.i in
    writing_more c.loop-i.invariant c.requires (byte_piece (get_or s i 0)) (left s (i + 1))
    (left_byte s i c.loop-i-test.true c.if-b-eq-BACKSLASH.false) c.write_rendered_byte-end.ensures

pub returns : goal.returns
returns c = writing_end c.loop-i.invariant (left_none c.args.name.now c.loop-i.i c.loop-i-test.false)

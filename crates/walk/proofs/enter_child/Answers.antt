-- The item's value stands where the scanner says, and its marks follow from its name or its position. Assumes nothing.
use Rattle.encoding.specs.BytesLaws.{part_is}
use Rattle.walk.specs.Labels.{of_escaped, of_member, of_array, label_is}
use Rattle.walk.proofs.enter_child.Goals.{then-object+then-item, then-object+else-item, else-object}
use Rattle.walk.proofs.enter_child.Goals as goal

pub returns : goal.returns
returns c =
    let item = c.enter_item-item.ensures in
    let name = part_is _ _ c.args.record.now item.name_order in
    record {
      onward = item.onward;
      within = item.within;
      exact = λ w key rest d f.
          let e = item.exact w key rest d f in
          let labelled = label_is _ c.args.object key c.args.index _ _ e.1 in (
            e.0,
            c.advance-next.ensures _
                (elim c.if-object.branch [
                  | then-object+then-item w ↦ of_escaped w.if-object.true w.child-is name labelled
                  | then-object+else-item w ↦ of_member w.if-object.true w.child-is name (item.bare w.if-item.false) labelled
                  | else-object w ↦ of_array w.if-object.false w.child-is labelled
                ]),
          );
    }

-- Blanks, then in an object the name, blanks, the colon and blanks again; each part ends where its own scanner says. Assumes nothing.
use mathlib.Core.Bool.{true, false}
use Rattle.scan.proofs.Laws.{enters_as, enters_element, enters_end, enters_no_colon, enters_no_name, enters_member}
use Rattle.scan.proofs.enter_item.Goals as goal
use Rattle.scan.proofs.enter_item.Goals.{then-not-object-via-then-not-object, then-not-object-via-else-not-object+then-a-s}
use Rattle.scan.proofs.enter_item.Goals.{then-colon-s-via-then-colon-s, then-colon-s-via-else-colon-s+then-end-from}

pub returns-then-not-object : goal.returns-then-not-object
returns-then-not-object c =
    elim c.then-not-object.branch [
      | then-not-object-via-then-not-object w ↦ enters_as _ false w.if-not-object.true (enters_element _ _ _ c.skip_blanks-a.ensures)
      | then-not-object-via-else-not-object+then-a-s w ↦ enters_as _ true w.if-not-object.false (enters_end _ _ _ c.skip_blanks-a.ensures w.if-a-s.true)
    ]

pub returns-then-colon-s : goal.returns-then-colon-s
returns-then-colon-s c =
    enters_as _ true c.if-not-object.false
    (elim c.then-colon-s.branch [
      | then-colon-s-via-then-colon-s w ↦
          enters_no_colon _ _ _ c.skip_blanks-a.ensures _ _ c.name_end-name.ensures _ c.skip_blanks-colon.ensures w.if-colon-s.true
      | then-colon-s-via-else-colon-s+then-end-from w ↦
          enters_no_name _ _ _ c.skip_blanks-a.ensures _ _ c.name_end-name.ensures _ c.skip_blanks-colon.ensures w.if-end-from.true
    ])

pub returns : goal.returns
returns c =
    enters_as _ true c.if-not-object.false
    (enters_member _ _ _ c.skip_blanks-a.ensures _ _ c.name_end-name.ensures _
    c.skip_blanks-colon.ensures c.if-end-from.false _ c.skip_blanks-value.ensures)

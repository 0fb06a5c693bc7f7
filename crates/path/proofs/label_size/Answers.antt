-- `path::label_size` meets its contract: a label is a position or a name, each with brackets around it. Assumes nothing.
use mathlib.Core.Path.{sym, ◌∙◌}
use native.Mathlib.Omega.{arith}
use Rattle.encoding.specs.BytesLaws.{part_is}
use Rattle.text.specs.DecimalLaws.{decimal_word}
use Rattle.path.proofs.Labels.{position_measured, name_measured, name_refused}
use Rattle.path.proofs.label_size.Goals as goal

pub overflow_add-result : goal.overflow_add-result
overflow_add-result c = omega (arith, decimal_word c.in-Position.position (omega arith), c.digit_count.ensures)

pub returns-in-Position : goal.returns-in-Position
returns-in-Position c = rw c.in-Position.is (position_measured _ _ (omega arith) c.digit_count.ensures)

pub returns-then-name : goal.returns-then-name
returns-then-name c =
    let within = rw c.in-Name.is at c.requires.0 in
    let half = rw (part_is _ _ c.args.«record».now within.1) at c.name_size-name.ensures.half_value in
    rw c.in-Name.is (name_refused _ _ _ (sym c.if-name.true ∙ half))

pub returns-else-name : goal.returns-else-name
returns-else-name c =
    let within = rw c.in-Name.is at c.requires.0 in
    let part = part_is _ _ c.args.«record».now within.1 in
    let half = rw part at c.name_size-name.ensures.half_value in
    let size = rw part at c.name_size-name.ensures.size_value in
    rw c.in-Name.is (name_measured _ _ _ (sym c.if-name.false ∙ half) size c.name_size-name.ensures.size_bound)

-- The table of classes and the table of rows are right: antt computes both and compares them, entry by entry and row by row.
-- Assumes nothing.
use mathlib.Core.Path.{refl}
use Rattle.bits.specs.Truth.{all_below}
use Rattle.encoding.specs.Class.{class_of}
use Rattle.encoding.specs.ClassTable.{ClassTable, right_at, class_table}
use Rattle.encoding.specs.RowTable.{RowTable}
use Rattle.encoding.specs.Utf8.{rows}
use Rattle.encoding.specs.declared.tables.TheConstants.{CLASSES, ROWS}

pub classes_right : ClassTable CLASSES
unfolding all_below right_at class_of
classes_right = class_table CLASSES refl tt

pub rows_right : RowTable ROWS
unfolding rows
rows_right = record { same = refl }

-- Seven code points have a letter, and any other has none. Assumes nothing.
use native.Mathlib.Omega.{arith}
use Rattle.paths.specs.Normalized.{backspace, form, line, carriage, tabulator, apostrophe, backslash}
use Rattle.paths.specs.RenderedLaws.{NoShort}
use Rattle.path_names.specs.Pieces.{named, nameless}
use Rattle.path_names.proofs.escape_letter.Goals as goal

pub returns-in-8 : goal.returns-in-8
returns-in-8 c = named backspace c.in-8.is

pub returns-in-9 : goal.returns-in-9
returns-in-9 c = named tabulator c.in-9.is

pub returns-in-10 : goal.returns-in-10
returns-in-10 c = named line c.in-10.is

pub returns-in-12 : goal.returns-in-12
returns-in-12 c = named form c.in-12.is

pub returns-in-13 : goal.returns-in-13
returns-in-13 c = named carriage c.in-13.is

pub returns-in-39 : goal.returns-in-39
returns-in-39 c = named apostrophe c.in-39.is

pub returns-in-92 : goal.returns-in-92
returns-in-92 c = named backslash c.in-92.is

pub returns-in_default : goal.returns-in_default
returns-in_default c = nameless none
  where
    none : NoShort c.args.point
    none backspace e = omega arith
    none tabulator e = omega arith
    none line e = omega arith
    none form e = omega arith
    none carriage e = omega arith
    none apostrophe e = omega arith
    none backslash e = omega arith

-- A mark that is off takes nothing; one that is on says that the operand is a name's, where the child has a name, and takes what that name and
-- the child's say, or the position that it is. Assumes nothing.
use mathlib.Core.Path.{refl, ap, ◌∙◌}
use mathlib.Core.List.{List}
use Prim.Native.Nat.{ℕ}
use Rattle.std.proofs.Math.Nat.{le_trans}
use Rattle.encoding.specs.Bytes.{same_numbers}
use Rattle.encoding.specs.Unescape.{unescaped}
use Rattle.marks.specs.Advances.{is_name, name_is, position_is}
use Rattle.marks.proofs.Hits.{mark_on, hit_off, hit_on}
use Rattle.marks.proofs.takes.Goals as goal

pub returns-then-marks-i-ne1 : goal.returns-then-marks-i-ne1
returns-then-marks-i-ne1 c = hit_off _ _ _ refl _ c.if-marks-i-ne1.true

pub name_of-requires : goal.name_of-requires
name_of-requires c =
    let at_hand = rw c.in-Member.is at c.requires.at_hand in
    let bounds = at_hand.1 _ (mark_on _ _ _ refl c.if-marks-i-ne1.false) in
    (bounds.0, le_trans bounds.1 at_hand.0)

pub name_of-requires-in-Escaped : goal.name_of-requires-in-Escaped
name_of-requires-in-Escaped c =
    let at_hand = rw c.in-Escaped.is at c.requires.at_hand in
    let bounds = at_hand.1 _ (mark_on _ _ _ refl c.if-marks-i-ne1.false) in
    (bounds.0, le_trans bounds.1 at_hand.0)

pub returns-in-Member : goal.returns-in-Member
unfolding name_is is_name
returns-in-Member c =
    rw c.in-Member.is
    (c.same_written.ensures ∙ ap (λ (name : List ℕ). same_numbers name c.in-Member.name.now) c.name_of.ensures ∙ hit_on _ _ _ refl _ c.if-marks-i-ne1.false)

pub returns-in-Escaped : goal.returns-in-Escaped
unfolding name_is is_name
returns-in-Escaped c =
    rw c.in-Escaped.is
    (c.same_decoded.ensures ∙ ap (λ (name : List ℕ). same_numbers name (unescaped c.in-Escaped.name.now)) c.name_of-in-Escaped.ensures ∙ hit_on _ _ _ refl _ c.if-marks-i-ne1.false)

pub returns-in-Element : goal.returns-in-Element
unfolding position_is
returns-in-Element c = rw c.in-Element.is (hit_on _ _ _ refl _ c.if-marks-i-ne1.false)

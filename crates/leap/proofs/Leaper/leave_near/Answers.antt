-- `leap::Leaper::leave_near` meets its contract: the words that are kept, from the opening bracket on, are those of the definition. Assumes nothing.
use mathlib.Core.Path.{refl, sym}
use Rattle.leap.proofs.Kept.{near_after}
use Rattle.leap.proofs.Leaper.leave_near.Goals as goal

pub returns-in-At : goal.returns-in-At
returns-in-At c =
    let self = c.args.self.now in
    near_after _ _ _ _ _ c.if-at-self.false c.if-ahead-ge-BLOCK.false refl (sym c.if-not-has.ensures) c.in-At.ensures self.kept

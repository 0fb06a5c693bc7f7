-- Each flag stands at its even place, whatever the others are. Assumes nothing.
use Rattle.classifier.proofs.Packing.{four_law}
use Rattle.classifier.proofs.four.Goals as goal

pub returns : goal.returns
returns g c = record {
  flag_a = c.is.result;
  flag_b = c.is-2.result;
  flag_c = c.is-3.result;
  flag_d = c.is-4.result;
  of_a = c.is.ensures;
  of_b = c.is-2.ensures;
  of_c = c.is-3.ensures;
  of_d = c.is-4.ensures;
  places = four_law _ _ _ _;
}

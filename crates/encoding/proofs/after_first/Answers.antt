-- `encoding::after_first` meets its contract: the row says what is due after the first byte, and the rest is read by that. Assumes nothing.
use Rattle.encoding.specs.CodePoint.{decoding}
use Rattle.encoding.proofs.ReadsLaws.{reads_so}
use Rattle.encoding.proofs.Scans.{one_on}
use Rattle.encoding.proofs.after_first.Goals as goal

pub returns : goal.returns
returns c = reads_so (λ ok at. one_on {read = decoding} c.requires.0 {ok = ok} {at = at} c.requires.1.reads) _ c.rest_of.ensures

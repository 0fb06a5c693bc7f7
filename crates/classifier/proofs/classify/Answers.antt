-- The packed flags of each class become its word. Assumes nothing.
use Rattle.classifier.proofs.classify.Goals as goal

pub returns : goal.returns
returns c =
    let packed = c.pack-m.ensures in
    record {
      quote_at = c.word.ensures.flags _ packed.quotes_are;
      backslash_at = c.word-2.ensures.flags _ packed.backslashes_are;
      opening_at = c.word-3.ensures.flags _ packed.opening_are;
      closing_at = c.word-4.ensures.flags _ packed.closing_are;
    }

use Rattle.std.proofs.Common.{arith, refl, rules, eqb, ◌||◌}
use Rattle.classifier.proofs.Braces.{opening_law, closing_law}
use Rattle.classifier.proofs.Packing.{packed_none, packed_more}
use Rattle.classifier.specs.Classes.{byte_at, is_backslash}
use Rattle.classifier.proofs.pack.Goals as goal

pub loop-i-init : goal.loop-i-init
loop-i-init c = record {
  quotes_are = packed_none _ _ refl;
  backslashes_are = packed_none _ _ refl;
  opening_are = packed_none _ _ refl;
  closing_are = packed_none _ _ refl;
}

pub loop-i-preserved : goal.loop-i-preserved
unfolding byte_at is_backslash
loop-i-preserved c =
    let packed = c.loop-i.invariant in
    record {
      quotes_are = packed_more (λ b. eqb b 0x22) (λ b x k. search rules) _ (omega arith) c.four.ensures packed.quotes_are;
      backslashes_are = packed_more (λ b. eqb b 0x5C) (λ b x k. search rules) _ (omega arith) c.four-in-loop-i.ensures packed.backslashes_are;
      opening_are = packed_more (λ b. eqb b 0x5B || eqb b 0x7B) (λ b x k. search (rules, opening_law)) _ (omega arith) c.four-in-loop-i-2.ensures packed.opening_are;
      closing_are = packed_more (λ b. eqb b 0x5D || eqb b 0x7D) (λ b x k. search (rules, closing_law)) _ (omega arith) c.four-in-loop-i-3.ensures packed.closing_are;
    }

-- A table of the classes of all bytes (document 01, "The class of every byte stands in a table of 256 numbers").
use Rattle.std.specs.Prelude.{◌≡◌, List, Bool, ℕ, ◌<◌, T, eqb, length, get_or}
use Rattle.std.proofs.Common.{eqb→eq}
use Rattle.bits.specs.Truth.{all_below, all_at}
use Rattle.encoding.specs.Class.{class_of}

-- entry b is the class of byte b
pub record ClassTable (table : List ℕ) : Type 0 where
  pub size : length table ≡ 256
  pub entry : (b : ℕ) → b < 256 → get_or table b 0 ≡ class_of b

-- the rule at one entry, as a test
unfoldable pub right_at : List ℕ → ℕ → Bool
right_at table b = eqb (get_or table b 0) (class_of b)

-- a table is right if the test passes at all of its entries
pub class_table : (table : List ℕ) → length table ≡ 256 → T (all_below 256 (right_at table)) → ClassTable table
unfolding right_at
class_table table n t =
    record {
      size = n;
      entry = λ b h. eqb→eq (get_or table b 0) (class_of b) (all_at 256 (right_at table) t b h);
    }

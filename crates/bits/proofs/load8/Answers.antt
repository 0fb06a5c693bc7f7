-- The eight bytes are those of the slice from `i` on, and the library puts them together as the word does. Assumes nothing.
use Rattle.std.proofs.Common.{◌≡◌, ℕ, ◌+◌, ◌-◌, ◌<◌, List, get_or, take, drop, ap, ◌∙◌, arith, get_or-take, get_or-drop}
use Rattle.bits.specs.Word.{word, loaded}
use Rattle.bits.proofs.load8.Goals as goal

byte_is : (s bytes : List ℕ) (i : ℕ) → bytes ≡ take (i + 8 - i) (drop i s) → (k : ℕ) → k < 8 → get_or bytes k 0 ≡ get_or s (i + k) 0
byte_is s bytes i e k h =
    let l : k < i + 8 - i = omega arith in
    ap (λ (xs : List ℕ). get_or xs k 0) e ∙ rw (get_or-take, get_or-drop)

pub returns : goal.returns
unfolding word
returns c =
    let chunk = rw c.unwrap-bytes.ensures at c.try_into.ensures.1 in
    let byte = byte_is c.args.s.now c.unwrap-bytes.result c.args.i chunk.same in
    loaded 8 c.args.s.now c.args.i _ (λ k. omega (arith, c.type_inv.s k)) (omega (arith, byte 0, byte 1, byte 2, byte 3, byte 4, byte 5, byte 6, byte 7))

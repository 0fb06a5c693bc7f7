-- A name between the quotes of a normalized path byte by byte, once its escapes are decoded: a function of all bytes, which code can go by.
use Rattle.std.specs.Prelude.{List, [], ◌∷◌, Bool, true, false, ◌||◌, ℕ, zero, suc, eqb, length, drop}
use Rattle.encoding.specs.Unescape.{point_at, size_at}
use Rattle.paths.specs.Answer.{is_half_of}
use Rattle.paths.specs.Rendered.{rendered}

-- the bytes of a decoded name, with s after them
unfoldable pub put_escaped : List ℕ → List ℕ → List ℕ
unfolding rendered
put_escaped [] s = s
put_escaped (b ∷ bs) s = rendered b (b ∷ put_escaped bs s) (put_escaped bs s)

-- some escape of a name, as it is written, stands for half of a surrogate pair; in at most n turns
unfoldable pub half_in : ℕ → List ℕ → Bool
unfolding point_at size_at
half_in zero s = false
half_in (suc n) [] = false
half_in (suc n) (b ∷ s) =
    elim (eqb b 0x5C) [
      | true ↦ is_half_of (point_at (b ∷ s)) || half_in n (drop (size_at (b ∷ s)) (b ∷ s))
      | false ↦ half_in n s
    ]

unfoldable pub half_escaped : List ℕ → Bool
unfolding half_in
half_escaped s = half_in (length s) s

-- The normalized path that labels are written as (RFC 9535 §2.7), as a function of any labels.
use Rattle.std.specs.Prelude.{List, [], ◌∷◌, ◌++◌, ℕ, ◌+◌, ◌/◌, ◌%◌, eqb, ltb}
use Rattle.encoding.specs.Points.{if_else, utf8}
use Rattle.select.specs.Nodes.{Label, member, element}
use Rattle.text.specs.Decimal.{decimal}

-- a hexadecimal digit in lower case
unfoldable pub hex_lower_of : ℕ → ℕ
hex_lower_of d = if_else (ltb d 10) (0x30 + d) (0x57 + d)

-- n between single quotes, with s after it: by its letter, as `\u00` and two digits, or as `itself`, which is n with s after it as it stands
unfoldable pub rendered : (n : ℕ) (itself s : List ℕ) → List ℕ
unfolding hex_lower_of
rendered n itself s =
    if_else (eqb n 0x08) (0x5C ∷ 0x62 ∷ s)
    (if_else (eqb n 0x09) (0x5C ∷ 0x74 ∷ s)
    (if_else (eqb n 0x0A) (0x5C ∷ 0x6E ∷ s)
    (if_else (eqb n 0x0C) (0x5C ∷ 0x66 ∷ s)
    (if_else (eqb n 0x0D) (0x5C ∷ 0x72 ∷ s)
    (if_else (eqb n 0x27) (0x5C ∷ 0x27 ∷ s)
    (if_else (eqb n 0x5C) (0x5C ∷ 0x5C ∷ s)
    (if_else (ltb n 0x20) (0x5C ∷ 0x75 ∷ 0x30 ∷ 0x30 ∷ (0x30 + n / 16) ∷ hex_lower_of (n % 16) ∷ s) itself)))))))

-- the code points of a name, with s after them
unfoldable pub put_name : List ℕ → List ℕ → List ℕ
unfolding rendered utf8
put_name [] s = s
put_name (n ∷ ns) s = rendered n (utf8 n (put_name ns s)) (put_name ns s)

-- a label in brackets, with s after it
unfoldable pub put_label : Label → List ℕ → List ℕ
unfolding put_name decimal
put_label (member k) s = 0x5B ∷ 0x27 ∷ put_name k (0x27 ∷ 0x5D ∷ s)
put_label (element j) s = 0x5B ∷ (decimal j ++ (0x5D ∷ s))

unfoldable pub put_labels : List Label → List ℕ → List ℕ
unfolding put_label
put_labels [] s = s
put_labels (l ∷ ls) s = put_label l (put_labels ls s)

-- the labels from the root down
unfoldable pub path_text : List Label → List ℕ
unfolding put_labels
path_text ls = 0x24 ∷ put_labels ls []

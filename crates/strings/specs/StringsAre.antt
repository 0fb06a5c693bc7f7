-- Word two is on in the strings of a text and nowhere else (document 01, "Words of 64 bits"): by induction on the text's tree, part after part.
-- Each part is stated from any place on that is outside strings, so that a container may be sorted from its opening bracket on. Assumes nothing.
use Rattle.std.specs.Prelude.{◌≡◌, Bool, false, List, [], ◌∷◌, ◌++◌, ℕ, suc, ◌+◌, length, drop}
use Rattle.std.proofs.Common.{arith}
use Rattle.blocks.specs.Laws.{Carried}
use Rattle.encoding.specs.Bytes.{Blanks, put_blanks}
use Rattle.json_text.specs.Grammar as G
use Rattle.json_text.specs.Grammar.{Kind, Key, Value, Items, More, put_key, put_value, put_items, put_more}
use Rattle.select.specs.Nodes.{size, key_size}
use Rattle.scan.specs.Places.{head_of, past_value}
use Rattle.strings.specs.Strings.{key_strings, value_strings, items_strings, more_strings}
use Rattle.strings.specs.Parts.{byte_at_lem, HasStrings, strings_one, strings_then, strings_to}
use Rattle.strings.specs.Texts.{crossed_blanks, crossed_comma, crossed_key, crossed_literal, crossed_number, crossed_quoted}
use Rattle.strings.specs.Texts.{opening_after, closing_after, container_size, empty_size, end_size, items_size, more_size}

module _ (inside odd : Bool) (s : List ℕ) (o : ℕ) where
  -- of what stands at place a of s, which is place p of the record
  abbrev ValueHas : Value → Type 0
  ValueHas v = (rest : List ℕ) (a p : ℕ) → p ≡ o + a → drop a s ≡ put_value v rest → Carried inside odd s a false false
      → HasStrings inside odd s o a (a + size v) (value_strings v p)

  abbrev ItemsHave : {k : Kind} → Items k → Type 0
  ItemsHave is = (rest : List ℕ) (a p : ℕ) → p ≡ o + a → drop a s ≡ put_items is rest → Carried inside odd s a false false
      → HasStrings inside odd s o a (a + length (put_items is [])) (items_strings is p)

  abbrev MoreHave : {k : Kind} → More k → Type 0
  MoreHave m = (rest : List ℕ) (a p : ℕ) → p ≡ o + a → drop a s ≡ put_more m rest → Carried inside odd s a false false
      → HasStrings inside odd s o a (a + length (put_more m [])) (more_strings m p)

  container_strings : {k : Kind} (is : Items k) → ItemsHave is → ValueHas (G.container k is)
  unfolding put_value value_strings
  container_strings {k} is inner rest a p z e c =
      let t = head_of s a (G.opening k) (put_items is rest) e in
      let d = opening_after k (byte_at_lem t) c in
      strings_to (container_size is a) (strings_then (strings_one d) (inner rest (suc a) (p + 1) (omega arith) t.rest_is d))

  close_strings : (k : Kind) (w : Blanks) (rest : List ℕ) (a : ℕ) → drop a s ≡ put_blanks w (G.closing k ∷ rest) → Carried inside odd s a false false
      → HasStrings inside odd s o a (suc (a + length w)) []
  close_strings k w rest a e c =
      let b = crossed_blanks {o = o} w (G.closing k ∷ rest) a e c in
      let t = head_of s (a + length w) (G.closing k) rest b.here in
      strings_then b.flat.strings (strings_one (closing_after k (byte_at_lem t) b.flat.strings.after))

  item_strings : {k : Kind} (key : Key k) (v : Value) (m : More k) → ValueHas v → MoreHave m
      → (rest : List ℕ) (a p : ℕ) → p ≡ o + a → drop a s ≡ put_key k key (put_value v (put_more m rest)) → Carried inside odd s a false false
      → HasStrings inside odd s o a (a + key_size k key + size v + length (put_more m []))
      (key_strings k key p ++ (value_strings v (p + key_size k key) ++ more_strings m (p + key_size k key + size v)))
  item_strings {k} key v m inner after rest a p z e c =
      let f = crossed_key k key (put_value v (put_more m rest)) a z e c in
      let g = inner (put_more m rest) (a + key_size k key) (p + key_size k key) (omega arith) f.here f.flat.strings.after in
      let h = past_value s (a + key_size k key) v (put_more m rest) f.here in
      strings_then f.flat.strings (strings_then g (after rest (a + key_size k key + size v) (p + key_size k key + size v) (omega arith) h g.after))

  mutual
    unfolding value_strings items_strings more_strings put_value put_items put_more

    pub value_strings_lem : (v : Value) → ValueHas v
    value_strings_lem (G.literal l) = λ rest a p z e c. (crossed_literal l rest a e c).flat.strings
    value_strings_lem (G.number g n f x) = λ rest a p z e c. (crossed_number g n f x rest a e c).flat.strings
    value_strings_lem (G.string cs) = λ rest a p z e c. (crossed_quoted cs rest a z e c).flat.strings
    value_strings_lem (G.container k is) = container_strings is (items_strings_lem is)

    pub items_strings_lem : {k : Kind} (is : Items k) → ItemsHave is
    items_strings_lem {k} (G.empty w) = λ rest a p z e c. strings_to (empty_size k w a) (close_strings k w rest a e c)
    items_strings_lem {k} (G.items w key v m) = λ rest a p z e c.
        let b = crossed_blanks w (put_key k key (put_value v (put_more m rest))) a e c in
        strings_to (items_size w key v m a)
        (strings_then b.flat.strings
        (item_strings key v m (value_strings_lem v) (more_strings_lem m) rest (a + length w) (p + length w) (omega arith) b.here b.flat.strings.after))

    pub more_strings_lem : {k : Kind} (m : More k) → MoreHave m
    more_strings_lem {k} (G.end w) = λ rest a p z e c. strings_to (end_size k w a) (close_strings k w rest a e c)
    more_strings_lem {k} (G.more w w' key v m) = λ rest a p z e c.
        let b = crossed_comma w w' (put_key k key (put_value v (put_more m rest))) a e c in
        strings_to (more_size w w' key v m a)
        (strings_then b.flat.strings
        (item_strings key v m (value_strings_lem v) (more_strings_lem m) rest (a + length w + 1 + length w') (p + length w + 1 + length w') (omega arith)
        b.here b.flat.strings.after))

-- The parts of a text between brackets, each with the place after it and what stands there. Assumes nothing.
use Rattle.std.specs.Prelude.{◌≡◌, Bool, true, false, drop}
use Rattle.std.proofs.Math.Path.{refl}
use Rattle.std.proofs.Common.{sym, ap, subst, ◌∙◌, arith, add-one}
use mathlib.Core.List.{List, [], ◌∷◌, ◌++◌}
use Prim.Native.Nat.{ℕ, suc, ◌+◌}
use Rattle.std.proofs.Math.ListN.{length}
use Rattle.classifier.specs.Classes.{byte_at}
use Rattle.blocks.specs.Laws.{Carried, carry_plain}
use Rattle.encoding.specs.Bytes.{Blanks, put_blanks}
use Rattle.json_text.specs.Grammar as G
use Rattle.json_text.specs.Grammar.{Kind, Key, Literal, Minus, Int, Frac, Exp, put_literal, put_string}
use Rattle.json_text.specs.Grammar.{put_key, put_value, put_items, put_more, Char, Value, Items, More}
use Rattle.encoding.specs.BytesLaws.{blanks_split, length_blanks}
use Rattle.json_text.specs.Append.{string_split, value_split, length-key, length_value, length_string}
use Rattle.select.specs.Nodes.{size, key_size}
use Rattle.scan.specs.Places.{head_of, past}
use Rattle.strings.specs.Strings.{Quotes, quotes_of, key_strings}
use Rattle.strings.specs.Parts.{byte_at_lem, calm, calm_is, all_calm, Flat, flat_then, flat_byte, flat_bytes, flat_string}
use Rattle.strings.specs.Calm.{calm_blanks, calm_literal, calm_number}

-- a part without brackets, and what stands after it
pub record Crossed (inside odd : Bool) (s : List ℕ) (o a e : ℕ) (qs : List Quotes) (rest : List ℕ) : Type 0 where
  pub flat : Flat inside odd s o a e qs
  pub here : drop e s ≡ rest

name_size : (key : G.Name) (a : ℕ)
    → a + length (put_string key.chars []) + length key.before + 1 + length key.after ≡ a + key_size G.object key
unfolding key_size put_key
name_size key a =
    omega (
      arith,
      length_string key.chars (put_blanks key.before (0x3A ∷ put_blanks key.after [])),
      length_blanks key.before (0x3A ∷ put_blanks key.after []),
      length_blanks key.after [],
    )

module _ {inside odd : Bool} {s : List ℕ} {o : ℕ} where
  pub crossed_then : {a b e : ℕ} {ps qs : List Quotes} {xs rest : List ℕ} → Crossed inside odd s o a b ps xs
      → (drop b s ≡ xs → Carried inside odd s b false false → Crossed inside odd s o b e qs rest) → Crossed inside odd s o a e (ps ++ qs) rest
  crossed_then p f =
      let q = f p.here p.flat.strings.after in
      record { flat = flat_then p.flat q.flat; here = q.here }

  pub crossed_to : {a e f : ℕ} {qs : List Quotes} {rest : List ℕ} → e ≡ f → Crossed inside odd s o a e qs rest → Crossed inside odd s o a f qs rest
  crossed_to {a} {e} {f} {qs} {rest} z p = subst (λ (x : ℕ). Crossed inside odd s o a x qs rest) z p

  crossed_bytes : (xs rest : List ℕ) (a : ℕ) → all_calm xs ≡ true → drop a s ≡ xs ++ rest → Carried inside odd s a false false
      → Crossed inside odd s o a (a + length xs) [] rest
  crossed_bytes xs rest a h e c = record { flat = flat_bytes xs rest a h e c; here = past s a xs rest e }

  pub crossed_blanks : (w : Blanks) (rest : List ℕ) (a : ℕ) → drop a s ≡ put_blanks w rest → Carried inside odd s a false false
      → Crossed inside odd s o a (a + length w) [] rest
  crossed_blanks w rest a e c =
      crossed_to (omega (arith, length_blanks w [])) (crossed_bytes (put_blanks w []) rest a (calm_blanks w) (e ∙ blanks_split w rest) c)

  pub crossed_byte : (b : ℕ) (rest : List ℕ) (a : ℕ) → calm b ≡ true → drop a s ≡ b ∷ rest → Carried inside odd s a false false
      → Crossed inside odd s o a (a + 1) [] rest
  crossed_byte b rest a h e c =
      let t = head_of s a b rest e in
      crossed_to (sym (add-one a)) (record { flat = flat_byte (calm_is (byte_at s a) (ap calm (byte_at_lem t) ∙ h)) c; here = t.rest_is })

  -- a comma with the blanks around it
  pub crossed_comma : (w w' : Blanks) (rest : List ℕ) (a : ℕ) → drop a s ≡ put_blanks w (0x2C ∷ put_blanks w' rest) → Carried inside odd s a false false
      → Crossed inside odd s o a (a + length w + 1 + length w') [] rest
  unfolding calm
  crossed_comma w w' rest a e c =
      crossed_then (crossed_blanks w (0x2C ∷ put_blanks w' rest) a e c) (λ e c.
      crossed_then (crossed_byte 0x2C (put_blanks w' rest) (a + length w) refl e c) (λ e c.
      crossed_blanks w' rest (a + length w + 1) e c))

  crossed_string : {p : ℕ} (cs : List Char) (rest : List ℕ) (a : ℕ) → p ≡ o + a → drop a s ≡ put_string cs rest → Carried inside odd s a false false
      → Crossed inside odd s o a (a + length (put_string cs [])) (quotes_of cs p ∷ []) rest
  crossed_string cs rest a z e c =
      record { flat = flat_string o cs rest a z e c; here = past s a (put_string cs []) rest (e ∙ string_split cs rest) }

  -- what stands before an item's value
  pub crossed_key : {p : ℕ} (k : Kind) (key : Key k) (rest : List ℕ) (a : ℕ) → p ≡ o + a → drop a s ≡ put_key k key rest
      → Carried inside odd s a false false
      → Crossed inside odd s o a (a + key_size k key) (key_strings k key p) rest
  unfolding put_key key_strings key_size calm
  crossed_key G.array key rest a z e c = crossed_blanks [] rest a e c
  crossed_key G.object key rest a z e c =
      let b : ℕ = a + length (put_string key.chars []) in
      crossed_to (name_size key a) (
      crossed_then (crossed_string key.chars (put_blanks key.before (0x3A ∷ put_blanks key.after rest)) a z e c) (λ e c.
      crossed_then (crossed_blanks key.before (0x3A ∷ put_blanks key.after rest) b e c) (λ e c.
      crossed_then (crossed_byte 0x3A (put_blanks key.after rest) (b + length key.before) refl e c) (λ e c.
      crossed_blanks key.after rest (b + length key.before + 1) e c))))

  -- values that are no containers
  pub crossed_literal : (l : Literal) (rest : List ℕ) (a : ℕ) → drop a s ≡ put_value (G.literal l) rest → Carried inside odd s a false false
      → Crossed inside odd s o a (a + size (G.literal l)) [] rest
  unfolding size put_value
  crossed_literal l rest a e c = crossed_bytes (put_literal l []) rest a (calm_literal l) (e ∙ value_split (G.literal l) rest) c

  pub crossed_number : (g : Minus) (n : Int) (f : Frac) (x : Exp) (rest : List ℕ) (a : ℕ) → drop a s ≡ put_value (G.number g n f x) rest
      → Carried inside odd s a false false → Crossed inside odd s o a (a + size (G.number g n f x)) [] rest
  unfolding size put_value
  crossed_number g n f x rest a e c =
      crossed_bytes (put_value (G.number g n f x) []) rest a (calm_number g n f x) (e ∙ value_split (G.number g n f x) rest) c

  pub crossed_quoted : {p : ℕ} (cs : List Char) (rest : List ℕ) (a : ℕ) → p ≡ o + a → drop a s ≡ put_value (G.string cs) rest
      → Carried inside odd s a false false → Crossed inside odd s o a (a + size (G.string cs)) (quotes_of cs p ∷ []) rest
  unfolding size put_value
  crossed_quoted cs rest a z e c = crossed_string cs rest a z e c

-- ---- brackets

-- a byte that is neither quote nor backslash, outside strings
pub bracket_after : {inside odd : Bool} {s : List ℕ} {a b : ℕ} → (b ≡ 0x22 → ⊥) → (b ≡ 0x5C → ⊥) → byte_at s a ≡ b → Carried inside odd s a false false
    → Carried inside odd s (suc a) false false
bracket_after {inside} {odd} {s} {a} q h e c = carry_plain inside odd s a false false (λ x. q (sym e ∙ x)) (λ x. h (sym e ∙ x)) c

pub opening_after : {inside odd : Bool} {s : List ℕ} {a : ℕ} (k : Kind) → byte_at s a ≡ G.opening k → Carried inside odd s a false false
    → Carried inside odd s (suc a) false false
opening_after G.array e c = bracket_after (λ x. omega arith) (λ x. omega arith) e c
opening_after G.object e c = bracket_after (λ x. omega arith) (λ x. omega arith) e c

pub closing_after : {inside odd : Bool} {s : List ℕ} {a : ℕ} (k : Kind) → byte_at s a ≡ G.closing k → Carried inside odd s a false false
    → Carried inside odd s (suc a) false false
closing_after G.array e c = bracket_after (λ x. omega arith) (λ x. omega arith) e c
closing_after G.object e c = bracket_after (λ x. omega arith) (λ x. omega arith) e c

-- ---- how the parts of a container add up

pub container_size : {k : Kind} (is : Items k) (a : ℕ) → suc a + length (put_items is []) ≡ a + size (G.container k is)
unfolding size put_value
container_size is a = omega arith

pub empty_size : (k : Kind) (w : Blanks) (a : ℕ) → suc (a + length w) ≡ a + length (put_items {k = k} (G.empty w) [])
unfolding put_items
empty_size k w a = omega (arith, length_blanks w (G.closing k ∷ []))

pub end_size : (k : Kind) (w : Blanks) (a : ℕ) → suc (a + length w) ≡ a + length (put_more {k = k} (G.end w) [])
unfolding put_more
end_size k w a = omega (arith, length_blanks w (G.closing k ∷ []))

item_size : {k : Kind} (key : Key k) (v : Value) (m : More k)
    → length (put_key k key (put_value v (put_more m []))) ≡ key_size k key + size v + length (put_more m [])
unfolding size key_size
item_size {k} key v m = omega (arith, length-key k key (put_value v (put_more m [])), length_value v (put_more m []))

pub items_size : {k : Kind} (w : Blanks) (key : Key k) (v : Value) (m : More k) (a : ℕ)
    → a + length w + key_size k key + size v + length (put_more m []) ≡ a + length (put_items (G.items w key v m) [])
unfolding put_items
items_size {k} w key v m a = omega (arith, length_blanks w (put_key k key (put_value v (put_more m []))), item_size key v m)

pub more_size : {k : Kind} (w w' : Blanks) (key : Key k) (v : Value) (m : More k) (a : ℕ)
    → a + length w + 1 + length w' + key_size k key + size v + length (put_more m []) ≡ a + length (put_more (G.more w w' key v m) [])
unfolding put_more
more_size {k} w w' key v m a =
    omega (
      arith,
      length_blanks w (0x2C ∷ put_blanks w' (put_key k key (put_value v (put_more m [])))),
      length_blanks w' (put_key k key (put_value v (put_more m []))),
      item_size key v m,
    )

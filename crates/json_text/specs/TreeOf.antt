-- The tree of a text, computed: the parsers of values, and with them of the whole text.
use Rattle.std.specs.Prelude.{List, [], ◌∷◌, Bool, true, false, ℕ, suc, length}
use Rattle.std.proofs.Math.Option.{Option, some, none}
use Prim.Native.Nat as N
use Rattle.encoding.specs.Bytes.{same_numbers}
use Rattle.json_text.specs.Grammar as G
use Rattle.json_text.specs.Grammar.{Kind, Key, closing, Value, Items, More, Tree, text}
use Rattle.json_text.specs.Parse.{Got, Parser, got, fail, on, only, choose, pick, parse_by, parse_in, parse_byte, parse_bytes, many, blank_of, parse_blanks}
use Rattle.json_text.specs.Parse.{digit_of, parse_digits, parse_some_digits, parse_minus, parse_int, parse_frac, parse_exp_sign, parse_power, parse_exp, parse_number}
use Rattle.json_text.specs.Parse.{parse_hex, parse_unicode, parse_escape, char_cases, parse_chars, parse_rest, parse_colon, parse_key}

-- parsers for values and for what follows an item
pub record Parsers : Type 0 where
  pub value : Parser Value
  pub more : (k : Kind) → Parser (More k)

unfoldable pub parse_item : {A : Type 0} → Parsers → (k : Kind) → (Key k → Value → More k → A) → Parser A
parse_item r k f = parse_key k (λ key s. on (r.value s) (λ v u. on (r.more k u) (λ m. got (f key v m))))

unfoldable pub parse_items : Parsers → (k : Kind) → Parser (Items k)
parse_items r k = parse_blanks (λ w. parse_by (only (closing k) (got (G.empty w)) ∷ []) (parse_item r k (G.items w)))

unfoldable pub parse_more : Parsers → (k : Kind) → Parser (More k)
parse_more r k = parse_blanks (λ w. parse_by (only (closing k) (got (G.end w)) ∷ only 0x2C (parse_blanks (λ w'. parse_item r k (G.more w w'))) ∷ []) fail)

unfoldable pub parse_container : Parsers → Kind → Parser Value
parse_container r k s = on (parse_items r k s) (λ is. got (G.container k is))

unfoldable pub parse_value : Parsers → Parser Value
parse_value r =
    parse_by
    (only 0x22 (parse_rest (λ cs. got (G.string cs))) ∷
    only 0x5B (parse_container r G.array) ∷
    only 0x7B (parse_container r G.object) ∷
    only 0x66 (parse_bytes (0x61 ∷ 0x6C ∷ 0x73 ∷ 0x65 ∷ []) (got (G.literal G.false_name))) ∷
    only 0x6E (parse_bytes (0x75 ∷ 0x6C ∷ 0x6C ∷ []) (got (G.literal G.null_name))) ∷
    only 0x74 (parse_bytes (0x72 ∷ 0x75 ∷ 0x65 ∷ []) (got (G.literal G.true_name))) ∷ [])
    parse_number

-- parsers whose calls go at most n deep
unfoldable pub parsers : ℕ → Parsers
parsers N.zero = record { value = fail; more = λ k. fail }
parsers (suc n) = record { value = parse_value (parsers n); more = parse_more (parsers n) }

-- a whole text
unfoldable pub parse_end : {A : Type 0} → A → Parser A
parse_end a [] = got a []
parse_end a (b ∷ s) = none

unfoldable pub parse_tree : Parser Tree
parse_tree s =
    parse_blanks (λ w z. on ((parsers (length s)).value z) (λ v. parse_blanks (λ w'. parse_end (record { before = w; value = v; after = w' })))) s

abbrev pub if_same : Bool → Tree → Option Tree
if_same true t = some t
if_same false t = none

abbrev pub if_text : List ℕ → Got Tree → Option Tree
if_text s none = none
if_text s (some p) = if_same (same_numbers (text p.0) s) p.0

-- the tree that s is the text of
unfoldable pub tree_of : List ℕ → Option Tree
unfolding
    choose pick parse_by parse_in parse_byte parse_bytes many blank_of parse_blanks
    digit_of parse_digits parse_some_digits parse_minus parse_int parse_frac parse_exp_sign parse_power parse_exp parse_number
    parse_hex parse_unicode parse_escape char_cases parse_chars parse_rest parse_colon parse_key
    parse_item parse_items parse_more parse_container parse_value parsers parse_end parse_tree same_numbers text
tree_of s = if_text s (parse_tree s)

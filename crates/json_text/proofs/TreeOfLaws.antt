-- `tree_of` undoes `text`, so a JSON text has exactly one tree. Each value is read back where its parts are, by how many bytes are left.
-- Assumes nothing.
use Rattle.std.specs.Prelude.{◌≡◌, List, [], ◌∷◌, Bool, true, false, ℕ, suc, ◌≤◌, length}
use Rattle.std.proofs.Math.Path.{refl}
use Rattle.std.proofs.Common.{ap, sym, ◌∙◌, arith}
use Rattle.std.proofs.Math.Option.{some, none, none-ne-some}
use Prim.Native.Nat as N
use Rattle.encoding.specs.Bytes as B
use Rattle.encoding.specs.Bytes.{In, put_in, Blanks, put_blanks, same_numbers}
use Rattle.encoding.specs.BytesLaws.{make, in_bounds, length_blanks, same_numbers_lem}
use Rattle.json_text.specs.Grammar as G
use Rattle.json_text.specs.Grammar.{Literal, Minus, Int, Char, Kind, Key, opening, closing, Value, Items, More, Tree, JsonText}
use Rattle.json_text.specs.Grammar.{put_literal, put_minus, put_int, put_frac, put_exp, put_string, put_key, put_value, put_items, put_more, text}
use Rattle.json_text.specs.Append.{length-key, length_value, value_positive, length_more, more_positive}
use Rattle.json_text.specs.Parse.{Got, Parser, got, fail, only, choose, pick, parse_by, parse_byte, parse_bytes, many, blank_of, digit_of}
use Rattle.json_text.proofs.ParseLaws.{on_got, all_apart, by_other, by_only, blanks_parsed, Solid, solid_in}
use Rattle.json_text.specs.Parse.{parse_frac, parse_exp, parse_number}
use Rattle.json_text.proofs.ParseLaws.{NumberEnd, number_parsed, rest_parsed, key_parsed}
use Rattle.json_text.specs.TreeOf.{Parsers, parse_item, parse_items, parse_more, parse_container, parse_value, parsers, parse_end, parse_tree}
use Rattle.json_text.specs.TreeOf.{if_same, if_text, tree_of}

-- s begins with a byte from lo to hi
record Begins (lo hi : ℕ) (s : List ℕ) : Type 0 where
  pub first : In lo hi
  pub behind : List ℕ
  pub is : s ≡ first.byte ∷ behind

number_begins : (g : Minus) (n : Int) (s : List ℕ) → Begins 0x2D 0x39 (put_minus g (put_int n s))
unfolding put_minus put_int make
number_begins G.minus n s = record { first = record { byte = 0x2D; ok = tt }; behind = put_int n s; is = refl }
number_begins G.unsigned G.nought s = record { first = record { byte = 0x30; ok = tt }; behind = s; is = refl }
number_begins G.unsigned (G.whole d ds) s =
    let b = in_bounds d in
    record { first = make d.byte (omega arith) (omega arith); behind = put_in ds s; is = refl }

-- s begins with no blank and with no closing bracket, as an item does
record ItemStart (k : Kind) (s : List ℕ) : Type 0 where
  pub solid : Solid s
  pub unclosed : (r other : Parser (Items k)) → parse_by (only (closing k) r ∷ []) other s ≡ other s

value_start : (v : Value) (u : List ℕ) → ItemStart G.array (put_value v u)
unfolding put_value put_literal put_string many blank_of parse_by pick choose all_apart
value_start (G.literal G.false_name) u = record { solid = refl; unclosed = λ r other. refl }
value_start (G.literal G.null_name) u = record { solid = refl; unclosed = λ r other. refl }
value_start (G.literal G.true_name) u = record { solid = refl; unclosed = λ r other. refl }
value_start (G.number g n f e) u = number (number_begins g n (put_frac f (put_exp e u)))
  where
    number : {s : List ℕ} → Begins 0x2D 0x39 s → ItemStart G.array s
    number b =
        rw
        b.is
        (record {
          solid = solid_in b.first b.behind refl;
          unclosed = λ r other. by_other b.first (only 0x5D r ∷ []) other b.behind refl;
        })
value_start (G.string cs) u = record { solid = refl; unclosed = λ r other. refl }
value_start (G.container G.array is) u = record { solid = refl; unclosed = λ r other. refl }
value_start (G.container G.object is) u = record { solid = refl; unclosed = λ r other. refl }

item_start : (k : Kind) (key : Key k) (v : Value) (u : List ℕ) → ItemStart k (put_key k key (put_value v u))
unfolding put_key put_string many blank_of parse_by pick choose
item_start G.array key v u = value_start v u
item_start G.object key v u = record { solid = refl; unclosed = λ r other. refl }

-- what follows a value begins with a blank, a closing bracket or a comma
closing_end : (k : Kind) (u : List ℕ) → NumberEnd (closing k ∷ u)
unfolding many digit_of parse_frac parse_exp parse_by pick choose
closing_end G.array u = record { digits = refl; frac = λ f. refl; exp = λ f. refl }
closing_end G.object u = record { digits = refl; frac = λ f. refl; exp = λ f. refl }

blanks_end : (w : Blanks) (u : List ℕ) → NumberEnd u → NumberEnd (put_blanks w u)
unfolding put_blanks many digit_of parse_frac parse_exp parse_by pick choose
blanks_end [] u h = h
blanks_end (B.space ∷ w) u h = record { digits = refl; frac = λ f. refl; exp = λ f. refl }
blanks_end (B.tab ∷ w) u h = record { digits = refl; frac = λ f. refl; exp = λ f. refl }
blanks_end (B.feed ∷ w) u h = record { digits = refl; frac = λ f. refl; exp = λ f. refl }
blanks_end (B.return ∷ w) u h = record { digits = refl; frac = λ f. refl; exp = λ f. refl }

more_end : {k : Kind} (m : More k) (u : List ℕ) → NumberEnd (put_more m u)
unfolding put_more many digit_of parse_frac parse_exp parse_by pick choose
more_end {k} (G.end w) u = blanks_end w (closing k ∷ u) (closing_end k u)
more_end (G.more w w' key v m) u = blanks_end w _ (record { digits = refl; frac = λ f. refl; exp = λ f. refl })

solid_closing : (k : Kind) (u : List ℕ) → Solid (closing k ∷ u)
unfolding many blank_of pick choose
solid_closing G.array u = refl
solid_closing G.object u = refl

solid_comma : (u : List ℕ) → Solid (0x2C ∷ u)
unfolding many blank_of pick choose
solid_comma u = refl

by_comma : {A : Type 0} (k : Kind) (r c : Parser A) (u : List ℕ) → parse_by (only (closing k) r ∷ only 0x2C c ∷ []) fail (0x2C ∷ u) ≡ c u
unfolding parse_by pick choose
by_comma G.array r c u = refl
by_comma G.object r c u = refl

-- where the parsers read back the values inside it, and what follows them, a value is read back
module _ (r : Parsers) where
  empty_parsed : (k : Kind) (w : Blanks) (u : List ℕ) → parse_items r k (put_blanks w (closing k ∷ u)) ≡ got (G.empty w) u
  unfolding parse_items
  empty_parsed k w u = blanks_parsed w _ (closing k ∷ u) (solid_closing k u) ∙ by_only (closing k) _ _ _ u

  end_parsed : (k : Kind) (w : Blanks) (u : List ℕ) → parse_more r k (put_blanks w (closing k ∷ u)) ≡ got (G.end w) u
  unfolding parse_more
  end_parsed k w u = blanks_parsed w _ (closing k ∷ u) (solid_closing k u) ∙ by_only (closing k) _ _ _ u

  number_parsed_by : {s : List ℕ} → Begins 0x2D 0x39 s → parse_value r s ≡ parse_number s
  unfolding parse_value all_apart
  number_parsed_by b = rw b.is (by_other b.first _ parse_number b.behind refl)

  literal_parsed : (l : Literal) (u : List ℕ) → parse_value r (put_literal l u) ≡ got (G.literal l) u
  unfolding parse_value parse_bytes parse_byte parse_by pick choose put_literal
  literal_parsed G.false_name u = refl
  literal_parsed G.null_name u = refl
  literal_parsed G.true_name u = refl

  string_parsed : (cs : List Char) (u : List ℕ) → parse_value r (put_string cs u) ≡ got (G.string cs) u
  unfolding parse_value parse_by pick choose put_string
  string_parsed cs u = rest_parsed cs _ u

  container_parsed : (k : Kind) (is : Items k) (s u : List ℕ) → parse_items r k s ≡ got is u → parse_value r (opening k ∷ s) ≡ got (G.container k is) u
  unfolding parse_value parse_container parse_by pick choose
  container_parsed G.array is s u e = on_got _ e
  container_parsed G.object is s u e = on_got _ e

  module _
      (k : Kind) (key : Key k) (v : Value) (m : More k) (u : List ℕ)
      (p : r.value (put_value v (put_more m u)) ≡ got v (put_more m u)) (q : r.more k (put_more m u) ≡ got m u)
    where
      item_parsed : {A : Type 0} (f : Key k → Value → More k → A) → parse_item r k f (put_key k key (put_value v (put_more m u))) ≡ got (f key v m) u
      unfolding parse_item
      item_parsed f = key_parsed k key _ (put_value v (put_more m u)) (value_start v (put_more m u)).solid ∙ on_got _ p ∙ on_got _ q

      items_parsed : (w : Blanks) → parse_items r k (put_items (G.items w key v m) u) ≡ got (G.items w key v m) u
      unfolding parse_items put_items
      items_parsed w =
          let h = item_start k key v (put_more m u) in
          blanks_parsed w _ _ h.solid ∙ h.unclosed _ _ ∙ item_parsed (G.items w)

      more_parsed : (w w' : Blanks) → parse_more r k (put_more (G.more w w' key v m) u) ≡ got (G.more w w' key v m) u
      unfolding parse_more put_more
      more_parsed w w' =
          let h = item_start k key v (put_more m u) in
          blanks_parsed w _ _ (solid_comma _) ∙ by_comma k _ _ _ ∙ blanks_parsed w' _ _ h.solid ∙ item_parsed (G.more w w')

-- with n for at least the bytes that are left, what was written is read back

no_value : (v : Value) (u : List ℕ) → length (put_value v u) ≤ 0 → ⊥
no_value v u h = omega (arith, length_value v u, value_positive v)

no_more : {k : Kind} (m : More k) (u : List ℕ) → length (put_more m u) ≤ 0 → ⊥
no_more m u h = omega (arith, length_more m u, more_positive m)

item_shorter : (w : Blanks) (k : Kind) (key : Key k) (v : Value) (m : More k) (u : List ℕ) →
    (length (put_value v (put_more m u)) ≤ length (put_blanks w (put_key k key (put_value v (put_more m u))))) ×
    (length (put_more m u) ≤ length (put_blanks w (put_key k key (put_value v (put_more m u)))))
item_shorter w k key v m u =
    let b = length_blanks w (put_key k key (put_value v (put_more m u))) in
    let c = length-key k key (put_value v (put_more m u)) in
    (omega arith, omega (arith, length_value v (put_more m u)))

mutual
  unfolding parsers put_value put_items put_more

  value_back : (v : Value) (n : ℕ) (u : List ℕ) → length (put_value v u) ≤ n → NumberEnd u → (parsers n).value (put_value v u) ≡ got v u
  value_back (G.literal l) N.zero u h e = absurd (no_value (G.literal l) u h)
  value_back (G.literal l) (suc n) u h e = literal_parsed (parsers n) l u
  value_back (G.number g i f x) N.zero u h e = absurd (no_value (G.number g i f x) u h)
  value_back (G.number g i f x) (suc n) u h e = number_parsed_by (parsers n) (number_begins g i (put_frac f (put_exp x u))) ∙ number_parsed g i f x u e
  value_back (G.string cs) N.zero u h e = absurd (no_value (G.string cs) u h)
  value_back (G.string cs) (suc n) u h e = string_parsed (parsers n) cs u
  value_back (G.container k is) N.zero u h e = absurd (no_value (G.container k is) u h)
  value_back (G.container k is) (suc n) u h e = container_parsed (parsers n) k is (put_items is u) u (items_back is n u (omega arith))

  items_back : {k : Kind} (is : Items k) (n : ℕ) (u : List ℕ) → length (put_items is u) ≤ n → parse_items (parsers n) k (put_items is u) ≡ got is u
  items_back {k} (G.empty w) n u h = empty_parsed (parsers n) k w u
  items_back {k} (G.items w key v m) n u h =
      let q = item_shorter w k key v m u in
      items_parsed (parsers n) k key v m u (value_back v n (put_more m u) (omega arith) (more_end m u)) (more_back m n u (omega arith)) w

  more_back : {k : Kind} (m : More k) (n : ℕ) (u : List ℕ) → length (put_more m u) ≤ n → (parsers n).more k (put_more m u) ≡ got m u
  more_back {k} (G.end w) N.zero u h = absurd (no_more {k = k} (G.end w) u h)
  more_back {k} (G.end w) (suc n) u h = end_parsed (parsers n) k w u
  more_back {k} (G.more w w' key v m) N.zero u h = absurd (no_more {k = k} (G.more w w' key v m) u h)
  more_back {k} (G.more w w' key v m) (suc n) u h =
      let b = length_blanks w (0x2C ∷ put_blanks w' (put_key k key (put_value v (put_more m u)))) in
      let q = item_shorter w' k key v m u in
      more_parsed (parsers n) k key v m u (value_back v n (put_more m u) (omega arith) (more_end m u)) (more_back m n u (omega arith)) w w'

solid_nothing : Solid []
unfolding many
solid_nothing = refl

nothing_end : NumberEnd []
unfolding many parse_frac parse_exp parse_by
nothing_end = record { digits = refl; frac = λ f. refl; exp = λ f. refl }

tree_back : (t : Tree) → parse_tree (text t) ≡ got t []
unfolding parse_tree text parse_end
tree_back t =
    let u = put_blanks t.after [] in
    let v = put_value t.value u in
    let b = length_blanks t.before v in
    blanks_parsed t.before _ v (value_start t.value u).solid
    ∙ on_got _ (value_back t.value (length (put_blanks t.before v)) u (omega arith) (blanks_end t.after [] nothing_end))
    ∙ blanks_parsed t.after _ [] solid_nothing

pub tree_of_text : (t : Tree) → tree_of (text t) ≡ some t
unfolding tree_of
tree_of_text t = ap (if_text (text t)) (tree_back t) ∙ ap (λ (b : Bool). if_same b t) ((same_numbers_lem (text t) (text t)).1 refl)

pub tree_of_sound : (s : List ℕ) (t : Tree) → tree_of s ≡ some t → text t ≡ s
unfolding tree_of
tree_of_sound s t e = sound (parse_tree s) e
  where
    same : (u : Tree) (b : Bool) → same_numbers (text u) s ≡ b → if_same b u ≡ some t → text t ≡ s
    same u true h e =
        let q : u ≡ t = cc in
        rw (← q) ((same_numbers_lem (text u) s).0 h)
    same u false h e = absurd (none-ne-some _ e)

    sound : (o : Got Tree) → if_text s o ≡ some t → text t ≡ s
    sound none e = absurd (none-ne-some _ e)
    sound (some p) e = same p.0 (same_numbers (text p.0) s) refl e

-- a text has one tree
pub unambiguous : (t t' : Tree) → text t ≡ text t' → t ≡ t'
unambiguous t t' e =
    let z : some t ≡ some t' = sym (tree_of_text t) ∙ ap tree_of e ∙ tree_of_text t' in
    cc

-- s is a JSON text just where it has a tree
pub tree_of_json : {s : List ℕ} (j : JsonText s) → tree_of s ≡ some j.tree
tree_of_json j = ap tree_of (sym j.written) ∙ tree_of_text j.tree

pub tree_of_none : {s : List ℕ} → tree_of s ≡ none → JsonText s → ⊥
tree_of_none e j = none-ne-some _ (sym e ∙ tree_of_json j)

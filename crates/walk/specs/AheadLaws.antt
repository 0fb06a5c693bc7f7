-- How a walk goes on: from the opening bracket to the first item, into its value, past it, and over a comma or the closing bracket. Assumes nothing.
use Rattle.std.specs.Prelude.{◌≡◌, refl, true, not, ℕ, ◌+◌, ◌≤◌, ◌<◌, get_or}
use Rattle.std.proofs.Math.Path.{sym, ap, ap₂}
use Rattle.std.proofs.Common.{◌∙◌, add-one, eq-eqb}
use mathlib.Core.List.{List, [], ◌∷◌, ◌++◌}
use Rattle.std.proofs.lemmas.Bool.{false≢true}
use Rattle.std.proofs.Math.Nat.{le-max_left, le-max_right, le_trans}
use native.Mathlib.Omega.{arith}
use Rattle.std.proofs.Math.ListN.{length, drop}
use Rattle.encoding.specs.Bytes.{Blanks, put_blanks}
use Rattle.encoding.specs.BytesLaws.{length_blanks}
use Rattle.encoding.specs.Class.{class_of}
use Rattle.json_text.specs.Append.{length_value, length-key}
use Rattle.json_text.specs.Grammar as G
use Rattle.json_text.specs.Grammar.{Kind, Key, Value, Items, More, closing, put_key, put_value, put_items, put_more, nesting, items_nesting, more_nesting}
use Rattle.select.specs.Nodes.{Label, size, key_size, label_of}
use Rattle.select.specs.Visits.{Visit, visits, items_visits, more_visits}
use Rattle.scan.specs.Places.{Head, head_of, past_blanks, past_key, past_value}
use Rattle.scan.specs.Scans.{EndsBlanks}
use Rattle.scan.specs.Shape.{solid, starts, stopped}
use Rattle.scan.specs.ShapeLaws.{solid_value, solid_key, solid_comma, solid_closing, starts_value, starts_key, stopped_more}
use Rattle.automaton.specs.State.{State}
use Rattle.automaton.specs.Tally.{Tally, tallied}
use Rattle.automaton.specs.Halves.{tallied-append}
use Rattle.walk.specs.Ahead.{value_at, ItemAhead, MoreAhead, ItemsAhead}

-- the class of a byte that begins a value or a key
starts_class : (b : ℕ) (u : List ℕ) → starts (b ∷ u) ≡ true → class_of b ≡ 2 → ⊥
unfolding starts
starts_class b u h e = false≢true (ap not (sym (eq-eqb (class_of b) 2 e)) ∙ h)

-- what begins a value or a key stands there
pub starts_at : (s : List ℕ) (a : ℕ) (xs : List ℕ) → starts xs ≡ true → drop a s ≡ xs → (a < length s) × (class_of (get_or s a 0) ≡ 2 → ⊥)
unfolding starts
starts_at s a [] h e = absurd (false≢true h)
starts_at s a (b ∷ xs) h e =
    let x = head_of s a b xs e in
    (x.inside, λ c. starts_class b xs h (ap class_of (sym x.byte_is) ∙ c))

pub closing_class : (k : Kind) → class_of (closing k) ≡ 2
unfolding class_of
closing_class G.array = refl
closing_class G.object = refl

pub closing_comma : (k : Kind) → closing k ≡ 0x2C → ⊥
closing_comma G.array e = omega arith
closing_comma G.object e = omega arith

pub item-length : (k : Kind) (w : Blanks) (key : Key k) (v : Value) (u : List ℕ)
    → length (put_blanks w (put_key k key (put_value v u))) ≡ length w + key_size k key + size v + length u
unfolding key_size size
item-length k w key v u = omega (arith, length_blanks w (put_key k key (put_value v u)), length-key k key (put_value v u), length_value v u)

-- blanks and the closing bracket, or what begins an item, stand at i; c is the place after the blanks
module _ (s rest : List ℕ) (k : Kind) (i c : ℕ) (blanks : EndsBlanks s i c) (w : Blanks) where
  at_closing : drop i s ≡ put_blanks w (closing k ∷ rest) → (c ≡ i + length w) × Head s c (closing k) rest
  at_closing e =
      let x : c ≡ i + length w = blanks.exact w (closing k ∷ rest) e (solid_closing k rest) in
      (x, head_of s c (closing k) rest (ap (λ (a : ℕ). drop a s) x ∙ past_blanks s i w (closing k ∷ rest) e))

  at_comma : (u : List ℕ) → drop i s ≡ put_blanks w (0x2C ∷ u) → (c ≡ i + length w) × Head s c 0x2C u
  at_comma u e =
      let x : c ≡ i + length w = blanks.exact w (0x2C ∷ u) e (solid_comma u) in
      (x, head_of s c 0x2C u (ap (λ (a : ℕ). drop a s) x ∙ past_blanks s i w (0x2C ∷ u) e))

  -- an item without the blanks before it
  record ItemStands (key : Key k) (v : Value) (u : List ℕ) : Type 0 where
    place : c ≡ i + length w
    item : drop c s ≡ put_key k key (put_value v u)
    inside : c < length s
    opens : class_of (get_or s c 0) ≡ 2 → ⊥

  at_item : (key : Key k) (v : Value) (u : List ℕ) → drop i s ≡ put_blanks w (put_key k key (put_value v u)) → ItemStands key v u
  at_item key v u e =
      let x : c ≡ i + length w = blanks.exact w (put_key k key (put_value v u)) e (solid_key k key (put_value v u) (solid_value v u)) in
      let here = ap (λ (a : ℕ). drop a s) x ∙ past_blanks s i w (put_key k key (put_value v u)) e in
      let stands = starts_at s c (put_key k key (put_value v u)) (starts_key k key (put_value v u) (starts_value v u)) here in
      record { place = x; item = here; inside = stands.0; opens = stands.1 }

module _ (next : State → Label → State) (s rest : List ℕ) (k : Kind) (st : State) (n : ℕ) (goal : Tally) (end : ℕ) where
  abbrev ItemsAt : ℕ → Tally → Type 0
  ItemsAt i t = ItemsAhead next s rest k st n goal end i t

  abbrev ItemAt : ℕ → ℕ → Tally → Type 0
  ItemAt i j t = ItemAhead next s rest k st n goal end i j t

  abbrev MoreAt : ℕ → ℕ → Tally → Type 0
  MoreAt i j t = MoreAhead next s rest k st n goal end i j t

  -- after the opening bracket and blanks something stands: the closing bracket where there are no items, and else the item at position 0 is
  -- ahead
  module _ (i c : ℕ) (t : Tally) (x : ItemsAt i t) (blanks : EndsBlanks s i c) where
    pub items_inside : c < length s
    unfolding put_items
    items_inside = go x.is x.here
      where
        go : (is : Items k) → drop i s ≡ put_items is rest → c < length s
        go (G.empty w) e = (at_closing s rest k i c blanks w e).1.inside
        go (G.items w key v m) e = (at_item s rest k i c blanks w key v (put_more m rest) e).inside

    pub no_items : class_of (get_or s c 0) ≡ 2 → (t ≡ goal) × (end ≡ c + 1)
    unfolding put_items items_visits tallied
    no_items f = go x.is x.here x.runs x.ends
      where
        go : (is : Items k) → drop i s ≡ put_items is rest → tallied t (items_visits next is st i) ≡ goal
            → end ≡ i + length (put_items is []) → (t ≡ goal) × (end ≡ c + 1)
        go (G.empty w) e r q = (r, omega (arith, (at_closing s rest k i c blanks w e).0, length_blanks w (closing k ∷ [])))
        go (G.items w key v m) e r q = absurd ((at_item s rest k i c blanks w key v (put_more m rest) e).opens f)

    pub first_item_lem : (class_of (get_or s c 0) ≡ 2 → ⊥) → ItemAt c 0 t
    unfolding put_items put_blanks items_visits items_nesting
    first_item_lem f = go x.is x.here x.shallow x.runs x.ends
      where
        go : (is : Items k) → drop i s ≡ put_items is rest → items_nesting is ≤ n → tallied t (items_visits next is st i) ≡ goal
            → end ≡ i + length (put_items is []) → ItemAt c 0 t
        go (G.empty w) e l r q = absurd (f (ap class_of (at_closing s rest k i c blanks w e).1.byte_is ∙ closing_class k))
        go (G.items w key v m) e l r q =
            let here = at_item s rest k i c blanks w key v (put_more m rest) e in
            let value : value_at k c [] key ≡ value_at k i w key = omega (arith, here.place) in
            record {
              w = [];
              key = key;
              v = v;
              m = m;
              behind = omega arith;
              here = here.item;
              shallow = le_trans (le-max_left (nesting v) (more_nesting m)) l;
              shallow_more = le_trans (le-max_right (nesting v) (more_nesting m)) l;
              runs =
                  ap (λ (a : ℕ). tallied t (visits next v (next st (label_of k key 0)) a ++ more_visits next m st 1 (a + size v))) value ∙ r;
              ends = omega (arith, value, item-length k w key v (put_more m []));
            }

  -- an item's value stands where the item's key ends, and what follows it ends a word
  module _ (i j : ℕ) (t : Tally) (x : ItemAt i j t) where
    pub item_value : ℕ
    item_value = value_at k i x.w x.key

    pub value_here : drop item_value s ≡ put_value x.v (put_more x.m rest)
    unfolding item_value
    value_here =
        past_key s (i + length x.w) k x.key (put_value x.v (put_more x.m rest))
        (past_blanks s i x.w (put_key k x.key (put_value x.v (put_more x.m rest))) x.here)

    pub value_inside : item_value < length s
    value_inside = (starts_at s item_value (put_value x.v (put_more x.m rest)) (starts_value x.v (put_more x.m rest)) value_here).0

    pub value_stopped : stopped (put_more x.m rest) ≡ true
    value_stopped = stopped_more x.m rest

    pub key_solid : solid (put_value x.v (put_more x.m rest)) ≡ true
    key_solid = solid_value x.v (put_more x.m rest)

    abbrev value_visits : List (Visit State)
    value_visits = visits next x.v (next st (label_of k x.key j)) item_value

    -- past the value, with the tally of its visits, the next position is one more
    pub item_passed : (e : ℕ) (u : Tally) → e ≡ item_value + size x.v → tallied t value_visits ≡ u → MoreAt e (j + 1) u
    unfolding item_value
    item_passed e u h f =
        record {
          m = x.m;
          behind = omega (arith, x.behind);
          here = ap (λ (a : ℕ). drop a s) h ∙ past_value s item_value x.v (put_more x.m rest) value_here;
          shallow = x.shallow_more;
          runs =
              ap₂ (λ (y : Tally) (a : ℕ). tallied y (more_visits next x.m st (j + 1) a)) (sym f) h
              ∙ sym (tallied-append t value_visits (more_visits next x.m st (j + 1) (item_value + size x.v)))
              ∙ x.runs;
          ends = omega (arith, x.ends);
        }

  -- after an item and blanks: a comma and an item, or the closing bracket
  module _ (i j c : ℕ) (t : Tally) (x : MoreAt i j t) (blanks : EndsBlanks s i c) where
    pub more_inside : c < length s
    unfolding put_more
    more_inside = go x.m x.here
      where
        go : (m : More k) → drop i s ≡ put_more m rest → c < length s
        go (G.end w) e = (at_closing s rest k i c blanks w e).1.inside
        go (G.more w w' key v m) e = (at_comma s rest k i c blanks w (put_blanks w' (put_key k key (put_value v (put_more m rest)))) e).1.inside

    pub no_more : (get_or s c 0 ≡ 0x2C → ⊥) → (t ≡ goal) × (end ≡ c + 1)
    unfolding put_more more_visits tallied
    no_more f = go x.m x.here x.runs x.ends
      where
        go : (m : More k) → drop i s ≡ put_more m rest → tallied t (more_visits next m st j i) ≡ goal
            → end ≡ i + length (put_more m []) → (t ≡ goal) × (end ≡ c + 1)
        go (G.end w) e r q = (r, omega (arith, (at_closing s rest k i c blanks w e).0, length_blanks w (closing k ∷ [])))
        go (G.more w w' key v m) e r q =
            absurd (f (at_comma s rest k i c blanks w (put_blanks w' (put_key k key (put_value v (put_more m rest)))) e).1.byte_is)

    pub next_item_lem : get_or s c 0 ≡ 0x2C → ItemAt (c + 1) j t
    unfolding put_more more_visits more_nesting
    next_item_lem f = go x.m x.here x.shallow x.runs x.ends
      where
        go : (m : More k) → drop i s ≡ put_more m rest → more_nesting m ≤ n → tallied t (more_visits next m st j i) ≡ goal
            → end ≡ i + length (put_more m []) → ItemAt (c + 1) j t
        go (G.end w) e l r q = absurd (closing_comma k (sym (at_closing s rest k i c blanks w e).1.byte_is ∙ f))
        go (G.more w w' key v m) e l r q =
            let y = at_comma s rest k i c blanks w (put_blanks w' (put_key k key (put_value v (put_more m rest)))) e in
            let b : i + length w + 1 + length w' + key_size k key ≡ value_at k (c + 1) w' key = omega (arith, y.0) in
            record {
              w = w';
              key = key;
              v = v;
              m = m;
              behind = omega (arith, x.behind, blanks.onward);
              here = ap (λ (a : ℕ). drop a s) (add-one c) ∙ y.1.rest_is;
              shallow = le_trans (le-max_left (nesting v) (more_nesting m)) l;
              shallow_more = le_trans (le-max_right (nesting v) (more_nesting m)) l;
              runs =
                  ap (λ (a : ℕ). tallied t (visits next v (next st (label_of k key j)) a ++ more_visits next m st (j + 1) (a + size v)))
                  (sym b)
                  ∙ r;
              ends =
                  omega (
                    arith,
                    length_blanks w (0x2C ∷ put_blanks w' (put_key k key (put_value v (put_more m [])))),
                    item-length k w' key v (put_more m []),
                    y.0,
                  );
            }

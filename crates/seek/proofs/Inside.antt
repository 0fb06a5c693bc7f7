-- What is still ahead inside a container: an item and those after it, or those after an item that was passed. As long as nothing was
-- found, what is looked for, and the trail to it, is among what is ahead. Assumes nothing.
use mathlib.Core.Path.{◌≡◌, refl, sym, ap, ◌∙◌}
use mathlib.Core.List.{List, [], ◌∷◌, ◌++◌}
use mathlib.Core.Option.{Option, some, none}
use Prim.Native.Nat.{ℕ, ◌+◌, ◌≤◌}
use native.Mathlib.Nat.{le-max_left, le-max_right, le_trans}
use native.Mathlib.Numerals.{add-one}
use native.Mathlib.Omega.{arith}
use Rattle.std.specs.Prelude.{Result, Ok, Err}
use lib.ListN.{length, drop}
use Rattle.encoding.specs.Bytes.{Blanks, put_blanks}
use Rattle.encoding.specs.BytesLaws.{length_blanks}
use Rattle.json_text.specs.Grammar as G
use Rattle.json_text.specs.Grammar.{Kind, Key, Value, Items, More, closing, put_key, put_value, put_items, put_more, nesting, items_nesting, more_nesting}
use Rattle.select.specs.Nodes.{size, key_size, label_of}
use Rattle.select.specs.Visits.{Visit, Way, step, visits, items_visits, more_visits}
use Rattle.answers.specs.Finder.{end_among}
use Rattle.paths.specs.Answer.{trail_among}
use Rattle.paths.specs.Trails.{Link, Trail, link_of, trails, items_trails, more_trails}
use Rattle.scan.specs.Places.{head_of, past_blanks, past_key, past_value}
use Rattle.scan.specs.ShapeLaws.{solid_value, solid_key, starts_value, starts_key, stopped_more}
use Rattle.walk.specs.Ahead.{value_at}
use Rattle.walk.specs.AheadLaws.{item-length}
use Rattle.seek.specs.declared.After.{After}
use Rattle.seek.specs.Seeks.{passed, FirstItem, NextItem, SeeksValue}
use Rattle.seek.specs.EndLaws.{found_first, found_second}
use Rattle.seek.specs.TrailLaws.{trail_first, trail_second, trail_none}

-- the nodes of the item number j of a container, of what stands at place q with its key before it, and of the items after it
module _ {k : Kind} where
  abbrev visits_from : Way → Key k → Value → More k → (j q : ℕ) → List (Visit Way)
  visits_from way key v m j q =
      visits step v (step way (label_of k key j)) (q + key_size k key) ++ more_visits step m way (j + 1) (q + key_size k key + size v)

  abbrev trails_from : Trail → Key k → Value → More k → (j q : ℕ) → List (Visit Trail)
  trails_from u key v m j q = trails v (link_of k key j q ∷ u) (q + key_size k key) ++ more_trails m u (j + 1) (q + key_size k key + size v)

-- in the container with the items is, whose opening bracket stands just before a, with rest after it, and whose values nest at most n deep;
-- way and u lead to the container
module _ (s rest : List ℕ) {k : Kind} (is : Items k) (a : ℕ) (way : Way) (u : Trail) (offset n : ℕ) where
  -- the end that is looked for, if there is one, and the trail to it
  abbrev goal : Option ℕ
  goal = end_among (items_visits step is way a) offset

  abbrev goal_trail : Option Trail
  goal_trail = trail_among (items_trails is u a) offset

  -- the place after the container
  abbrev end : ℕ
  end = a + length (put_items is [])

  -- the item number j is ahead at place i
  pub record ItemAhead (i j : ℕ) : Type 0 where
    pub w : Blanks
    pub key : Key k
    pub v : Value
    pub m : More k
    pub here : drop i s ≡ put_blanks w (put_key k key (put_value v (put_more m rest)))
    pub shallow : nesting v ≤ n
    pub shallow_more : more_nesting m ≤ n
    pub seeks : goal ≡ end_among (visits_from way key v m j (i + length w)) offset
    pub traces : goal_trail ≡ trail_among (trails_from u key v m j (i + length w)) offset
    pub ends : end ≡ value_at k i w key + size v + length (put_more m [])

  -- an item has been passed; the next one is number j
  pub record MoreAhead (i j : ℕ) : Type 0 where
    pub m : More k
    pub here : drop i s ≡ put_more m rest
    pub shallow : more_nesting m ≤ n
    pub seeks : goal ≡ end_among (more_visits step m way j i) offset
    pub traces : goal_trail ≡ trail_among (more_trails m u j i) offset
    pub ends : end ≡ i + length (put_more m [])

  -- the item number j is ahead, or the container was left
  abbrev pub Turn : Result ℕ After → (j : ℕ) → Type 0
  Turn (Ok i) j = ItemAhead i j
  Turn (Err after) j = (goal ≡ none) × (after.at ≡ end)

  -- behind the comma or the closing bracket
  pub next_turn : (i j : ℕ) (r : Result ℕ After) → MoreAhead i j → NextItem s i r → Turn r j
  unfolding put_more more_visits more_trails more_nesting end_among
  next_turn i j r x h = go x.m x.here x.shallow x.seeks x.traces x.ends
    where
      go : (m : More k) → drop i s ≡ put_more m rest → more_nesting m ≤ n → goal ≡ end_among (more_visits step m way j i) offset
          → goal_trail ≡ trail_among (more_trails m u j i) offset → end ≡ i + length (put_more m []) → Turn r j
      go (G.end w) e l f g q = rw (h.closed k w rest e) (f, omega (arith, length_blanks w (closing k ∷ [])))
      go (G.more w w' key v m) e l f g q =
          let z = put_blanks w' (put_key k key (put_value v (put_more m rest))) in
          rw (h.ahead w z e)
          record {
            w = w';
            key = key;
            v = v;
            m = m;
            here =
                ap (λ (c : ℕ). drop c s) (add-one (i + length w))
                ∙ (head_of s (i + length w) 0x2C z (past_blanks s i w (0x2C ∷ z) e)).rest_is;
            shallow = le_trans (le-max_left (nesting v) (more_nesting m)) l;
            shallow_more = le_trans (le-max_right (nesting v) (more_nesting m)) l;
            seeks = f;
            traces = g;
            ends =
                omega (
                  arith,
                  length_blanks w (0x2C ∷ put_blanks w' (put_key k key (put_value v (put_more m [])))),
                  item-length k w' key v (put_more m []),
                );
          }

  -- the value of an item that is ahead
  module _ (i j : ℕ) (x : ItemAhead i j) where
    abbrev value : ℕ
    value = value_at k i x.w x.key

    abbrev after : List ℕ
    after = put_more x.m rest

    -- how it hangs below the container
    abbrev link : Link
    link = link_of k x.key j (i + length x.w)

    pub value_here : drop value s ≡ put_value x.v after
    value_here =
        past_key s (i + length x.w) k x.key (put_value x.v after)
        (past_blanks s i x.w (put_key k x.key (put_value x.v after)) x.here)

    abbrev own_trails : List (Visit Trail)
    own_trails = trails x.v (link ∷ u) value

    abbrev later_trails : List (Visit Trail)
    later_trails = more_trails x.m u (j + 1) (value + size x.v)

    -- its trail is the one that is looked for
    pub item_traced : (t : Trail) → trail_among own_trails offset ≡ some t → goal_trail ≡ some t
    item_traced t f = x.traces ∙ trail_first offset own_trails later_trails t f

    abbrev own_way : Way
    own_way = step way (label_of k x.key j)

    abbrev own_visits : List (Visit Way)
    own_visits = visits step x.v own_way value

    abbrev later_visits : List (Visit Way)
    later_visits = more_visits step x.m way (j + 1) (value + size x.v)

    -- what was found in it is what is looked for
    pub item_found : (e : ℕ) → SeeksValue s offset value n (Ok e) → goal ≡ some e
    item_found e h =
        x.seeks ∙ found_first offset own_visits later_visits e (h.exact x.v after own_way value_here (stopped_more x.m rest) x.shallow)

    -- where nothing was, it is passed
    pub item_passed : (r : ℕ) → SeeksValue s offset value n (passed r) → MoreAhead r (j + 1)
    item_passed r h =
        let (none_there, p) = h.exact x.v after own_way value_here (stopped_more x.m rest) x.shallow in
        record {
          m = x.m;
          here = ap (λ (c : ℕ). drop c s) p ∙ past_value s value x.v after value_here;
          shallow = x.shallow_more;
          seeks =
              x.seeks
              ∙ found_second offset own_visits later_visits none_there
              ∙ ap (λ (c : ℕ). end_among (more_visits step x.m way (j + 1) c) offset) (sym p);
          traces =
              x.traces
              ∙ trail_second offset own_trails later_trails (trail_none offset x.v (link ∷ u) own_way value none_there)
              ∙ ap (λ (c : ℕ). trail_among (more_trails x.m u (j + 1) c) offset) (sym p);
          ends = omega (arith, x.ends);
        }

-- behind the opening bracket
pub first_turn : (s rest : List ℕ) {k : Kind} (is : Items k) (a : ℕ) (way : Way) (u : Trail) (offset n : ℕ) (r : Result ℕ After)
    → FirstItem s a r → drop a s ≡ put_items is rest → items_nesting is ≤ n → Turn s rest is a way u offset n r 0
unfolding put_items items_visits items_trails items_nesting end_among
first_turn s rest {k} (G.empty w) a way u offset n r h e l =
    rw (h.closed k w rest e) (refl, omega (arith, length_blanks w (closing k ∷ [])))
first_turn s rest {k} (G.items w key v m) a way u offset n r h e l =
    let after = put_more m rest in
    let z = put_key k key (put_value v after) in
    let b : a + length w ≡ a + length w + 0 = omega arith in
    rw (h.ahead w z e (solid_key k key (put_value v after) (solid_value v after)) (starts_key k key (put_value v after) (starts_value v after)))
    record {
      w = [];
      key = key;
      v = v;
      m = m;
      here = past_blanks s a w z e;
      shallow = le_trans (le-max_left (nesting v) (more_nesting m)) l;
      shallow_more = le_trans (le-max_right (nesting v) (more_nesting m)) l;
      seeks = ap (λ (c : ℕ). end_among (visits_from way key v m 0 c) offset) b;
      traces = ap (λ (c : ℕ). trail_among (trails_from u key v m 0 c) offset) b;
      ends = omega (arith, item-length k w key v (put_more m []));
    }

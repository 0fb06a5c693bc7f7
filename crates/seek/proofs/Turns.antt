-- Turn by turn through the items of a container: the first one, the value of each, and the next one, until a value was found or the
-- closing bracket was passed. Assumes nothing.
use mathlib.Core.Path.{◌≡◌}
use mathlib.Core.List.{List, []}
use mathlib.Core.Bool.{Bool}
use Prim.Native.Nat.{ℕ, ◌+◌, ◌≤◌}
use native.Mathlib.Omega.{arith}
use lib.ListN.{length, drop}
use Rattle.std.specs.Prelude.{Ok}
use Rattle.json_text.specs.Grammar.{Items, put_value, put_items, put_more, items_nesting}
use Rattle.select.specs.Visits.{Way}
use Rattle.paths.specs.Trails.{Trail}
use Rattle.scan.specs.Scans.{kind_if, EntersItem}
use Rattle.scan.specs.ShapeLaws.{solid_value}
use Rattle.walk.specs.Ahead.{value_at}
use Rattle.seek.specs.Seeks.{passed, FirstItem, NextItem, SeeksValue, SeeksInside}
use Rattle.seek.proofs.Inside.{ItemAhead, first_turn, next_turn, item_found, item_passed}

-- in the container whose opening bracket stands just before a
module _ (s : List ℕ) (o a : ℕ) (is_object : Bool) (n : ℕ) where
  -- the turn that is taken at place i, where the item number j is ahead, whatever items stand there; before each item but the first there is
  -- a comma, so j is at most i
  pub record Going (i j : ℕ) : Type 0 where
    pub onward : a ≤ i
    pub within : i ≤ length s
    pub behind : j ≤ i
    pub turn : (is : Items (kind_if is_object)) (rest : List ℕ) (way : Way) (u : Trail) → drop a s ≡ put_items is rest → items_nesting is ≤ n
        → ItemAhead s rest is a way u o n i j

  -- behind the opening bracket
  pub going_first : (i : ℕ) → FirstItem s a (Ok i) → Going i 0
  going_first i h =
      record {
        onward = h.onward;
        within = h.within;
        behind = omega arith;
        turn = λ is rest way u d l. first_turn s rest is a way u o n (Ok i) h d l;
      }

  pub empty_left : (r : ℕ) → FirstItem s a (passed r) → SeeksInside s o a is_object n (passed r)
  empty_left r h =
      record {
        onward = h.onward;
        within = h.within;
        exact = λ is rest way d l. first_turn s rest is a way [] o n (passed r) h d l;
      }

  -- an item is ahead, and its value stands at v
  module _ (i j : ℕ) (g : Going i j) (v x y : ℕ) (escaped : Bool) (entered : EntersItem s i is_object v x y escaped) where
    value_is : {is : Items (kind_if is_object)} {rest : List ℕ} {way : Way} {u : Trail} (z : ItemAhead s rest is a way u o n i j)
        → v ≡ value_at (kind_if is_object) i z.w z.key
    value_is {rest = rest} z = (entered.exact z.w z.key (put_value z.v (put_more z.m rest)) z.here (solid_value z.v (put_more z.m rest))).0

    -- something was found in it
    pub going_found : (e : ℕ) → SeeksValue s o v n (Ok e) → SeeksInside s o a is_object n (Ok e)
    going_found e h =
        record {
          onward = omega (arith, g.onward, entered.onward, h.onward);
          within = h.within;
          exact = λ is rest way d l.
              (let z = g.turn is rest way [] d l in
              item_found s rest is a way [] o n i j z e (rw (value_is z) at h));
        }

    -- nothing was: the next one is ahead, or the container was left
    module _ (r : ℕ) (h : SeeksValue s o v n (passed r)) where
      pub going_on : (i' : ℕ) → NextItem s r (Ok i') → Going i' (j + 1)
      going_on i' b =
          record {
            onward = omega (arith, g.onward, entered.onward, h.onward, b.onward);
            within = b.within;
            behind = omega (arith, g.behind, entered.onward, h.onward, b.forth);
            turn = λ is rest way u d l.
                (let z = g.turn is rest way u d l in
                next_turn s rest is a way u o n r (j + 1) (Ok i') (item_passed s rest is a way u o n i j z r (rw (value_is z) at h)) b);
          }

      pub going_left : (r' : ℕ) → NextItem s r (passed r') → SeeksInside s o a is_object n (passed r')
      going_left r' b =
          record {
            onward = omega (arith, g.onward, entered.onward, h.onward, b.onward);
            within = b.within;
            exact = λ is rest way d l.
                (let z = g.turn is rest way [] d l in
                next_turn s rest is a way [] o n r (j + 1) (passed r') (item_passed s rest is a way [] o n i j z r (rw (value_is z) at h)) b);
          }

-- The links that are kept on the way back from the value that was found: one for each container that was entered, those below it before it.
-- Assumes nothing.
use mathlib.Core.Path.{◌≡◌, sym, ap, ◌∙◌}
use mathlib.Core.Bool.{Bool}
use mathlib.Core.List.{List, [], ◌∷◌, ◌++◌, append_assoc}
use mathlib.Core.Option.{some}
use Prim.Native.Nat.{ℕ, ◌+◌, ◌-◌, ◌≤◌}
use native.Mathlib.Omega.{arith}
use lib.Dec.{eqb}
use lib.ListN.{length, drop, get_or, length-append}
use Rattle.std.specs.Prelude.{Result, Ok, Err}
use Rattle.std.specs.Result.{result_ok}
use Rattle.encoding.specs.Bytes.{put_blanks}
use Rattle.encoding.specs.Class.{class_of}
use Rattle.json_text.specs.Grammar.{Value, put_value, put_more, nesting}
use Rattle.json_text.specs.Verdict.{max_depth}
use Rattle.select.specs.Nodes.{root}
use Rattle.paths.specs.Answer.{trail_among}
use Rattle.paths.specs.Trails.{Trail, link_of, trails, trails_of}
use Rattle.scan.specs.Scans.{kind_if, EndsBlanks, EntersItem}
use Rattle.scan.specs.ShapeLaws.{solid_value, stopped_more, stopped_end}
use Rattle.seek.specs.declared.After.{After}
use Rattle.seek.specs.declared.keeper.KeptLink.{KeptLink}
use Rattle.seek.specs.Keeps.{link_if, nothing, one_more, Traces, KeepsValue, KeepsInside, KeepsFrom}
use Rattle.seek.specs.TrailLaws.{trail_there, trail_inside}
use Rattle.seek.proofs.Descent.{root_here}
use Rattle.seek.proofs.Inside.{value_here, item_traced}
use Rattle.seek.proofs.Links.{item_slot}
use Rattle.seek.proofs.Turns.{Going}
use Rattle.seek.proofs.Values.{Opens, opens, opens_items}

module _ {K : Type 0} (keeps : K → KeptLink → K → Type 0) (s : List ℕ) (o : ℕ) where
  -- the value itself has no links below it
  pub keeps_there : (a n : ℕ) (k : K) (e : ℕ) → a ≡ o → KeepsValue keeps s o a n k k (Ok e)
  keeps_there a n k e p v rest u d q l = record { links = []; found_is = trail_there o v u a p; few = omega arith; kept = nothing }

  -- a container is entered
  pub keeps_below : (a n : ℕ) (before after : K) (r : Result ℕ After) → (a ≡ o → ⊥) → class_of (get_or s a 0) ≡ 1 → (n ≡ 0 → ⊥)
      → KeepsInside keeps s o (a + 1) (eqb (get_or s a 0) 0x7B) (n - 1) before after r → KeepsValue keeps s o a n before after r
  unfolding nesting
  keeps_below a n before after (Err place) h f z x = x
  keeps_below a n before after (Ok e) h f z x = λ v rest u d q l. go v rest u (opens_items s rest a f v d) l
    where
      go : (v : Value) (rest : List ℕ) (u : Trail) → Opens s rest a v → nesting v ≤ n → Traces keeps s (trail_among (trails v u a) o) u n before after
      go _ rest u (opens is here) l =
          let t = x is rest u here (omega arith) in
          record {
            links = t.links;
            found_is = trail_inside o _ is u a h ∙ t.found_is;
            few = omega (arith, t.few);
            kept = t.kept;
          }

  -- in the value of the item number j, which stands at v, something was found, and the item's link is kept
  pub keeps_item : (a : ℕ) (is_object : Bool) (n i j : ℕ) → Going s o a is_object n i j
      → (v x y : ℕ) (escaped : Bool) → EntersItem s i is_object v x y escaped
      → (before between after : K) (e : ℕ) → KeepsValue keeps s o v n before between (Ok e)
      → keeps between (link_if is_object x y j) after → KeepsInside keeps s o a is_object n before after (Ok e)
  keeps_item a is_object n i j g v x y escaped entered before between after e h last is rest u d l =
      let z = g.turn is rest [] u d l in
      let value = put_value z.v (put_more z.m rest) in
      let link = link_of (kind_if is_object) z.key j (i + length z.w) in
      let (place, named) = entered.exact z.w z.key value z.here (solid_value z.v (put_more z.m rest)) in
      let here : drop v s ≡ value = rw place (value_here s rest is a [] u o n i j z) in
      let t = h z.v (put_more z.m rest) (link ∷ u) here (stopped_more z.m rest) z.shallow in
      let slot =
      item_slot s is_object z.key j (i + length z.w) x y entered.name_order entered.name_within named
      (entered.quote z.w z.key value z.here (solid_value z.v (put_more z.m rest))) in
      record {
        links = t.links ++ (link ∷ []);
        found_is =
            item_traced s rest is a [] u o n i j z (t.links ++ (link ∷ u)) (rw place at t.found_is)
            ∙ ap some (sym (append_assoc t.links (link ∷ []) u));
        few = omega (arith, length-append t.links (link ∷ []), t.few);
        kept = one_more t.kept slot last;
      }

  -- from the root on
  pub keeps_root : (a : ℕ) (before after : K) (r : Result ℕ After) → EndsBlanks s 0 a
      → KeepsValue keeps s o a max_depth before after r → KeepsFrom keeps s o before after (result_ok r)
  unfolding trails_of root
  keeps_root a before after (Err place) b h = h
  keeps_root a before after (Ok e) b h = λ t p q.
      (let (place, here) = root_here s a b t p in
      rw (← place) (h t.value (put_blanks t.after []) [] here (stopped_end t.after) q))

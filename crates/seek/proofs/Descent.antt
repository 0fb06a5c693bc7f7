-- A value that begins at the offset is the one that is looked for. One behind the offset has no such value, nor has another scalar; in a
-- container before the offset it is among the items. Assumes nothing.
use mathlib.Core.Path.{◌≡◌, sym, ap, ◌∙◌}
use mathlib.Core.List.{List, []}
use Prim.Native.Nat.{ℕ, ◌+◌, ◌-◌, ◌≤◌, ◌<◌}
use native.Mathlib.Omega.{arith}
use lib.Dec.{eqb}
use lib.ListN.{length, drop, get_or}
use Rattle.std.specs.Prelude.{Result, Ok, Err}
use Rattle.std.specs.Result.{result_ok}
use Rattle.encoding.specs.Bytes.{put_blanks}
use Rattle.encoding.specs.Class.{class_of}
use Rattle.json_text.specs.Append.{value_positive}
use Rattle.json_text.specs.Grammar.{Value, put_value, nesting, Tree, text}
use Rattle.json_text.specs.Verdict.{max_depth}
use Rattle.select.specs.Nodes.{size, root}
use Rattle.select.specs.Visits.{Visit, Way, step, visits, node_visits, nodes}
use Rattle.answers.specs.Finder.{end_among}
use Rattle.scan.specs.Places.{past_blanks}
use Rattle.scan.specs.Scans.{EndsBlanks, EndsScalar}
use Rattle.scan.specs.ShapeLaws.{solid_value, stopped_end}
use Rattle.seek.specs.declared.After.{After}
use Rattle.seek.specs.Seeks.{passed, end_of, EndsValue, Seeks, SeeksValue, SeeksInside, FindsFrom}
use Rattle.seek.specs.EndLaws.{value_behind, value_there, scalar_other, container_other}
use Rattle.seek.proofs.Values.{IsContainer, holds, value_inside, is_container, is_scalar, Opens, opens, opens_items}

-- nodes among which the same is found
same_found : (o : ℕ) (r : Result ℕ After) (vs ws : List (Visit Way)) (i j : ℕ) → Seeks vs o i r → end_among ws o ≡ end_among vs o → i ≡ j → Seeks ws o j r
same_found o (Ok e) vs ws i j h p q = p ∙ h
same_found o (Err after) vs ws i j h p q = (p ∙ h.0, h.1 ∙ q)

found_ok : (o : ℕ) (r : Result ℕ After) (vs : List (Visit Way)) (i : ℕ) → Seeks vs o i r → end_of (result_ok r) ≡ end_among vs o
found_ok o (Ok e) vs i h = sym h
found_ok o (Err after) vs i h = sym h.0

module _ (s : List ℕ) (o a n : ℕ) where
  pub seeks_there : (e : ℕ) → a ≡ o → EndsValue s a e → SeeksValue s o a n (Ok e)
  seeks_there e h x =
      record {
        onward = x.onward;
        within = x.within;
        exact = λ v rest way d q l. rw (x.exact v rest d q) (value_there o v way a h);
      }

  -- no value ends before the first byte
  pub seeks_nothing : (e : ℕ) → EndsValue s a e → e ≡ 0 → SeeksValue s o a n (passed e)
  unfolding size
  seeks_nothing e x z =
      record {
        onward = x.onward;
        within = x.within;
        exact = λ v rest way d q l. absurd (omega (arith, x.exact v rest d q, value_positive v));
      }

  pub seeks_behind : (e : ℕ) → o < a → EndsValue s a e → SeeksValue s o a n (passed e)
  seeks_behind e h x =
      record {
        onward = x.onward;
        within = x.within;
        exact = λ v rest way d q l. (value_behind o v way a h, x.exact v rest d q);
      }

  -- no value stands here
  none_here : a ≤ length s → ((v : Value) (rest : List ℕ) → drop a s ≡ put_value v rest → nesting v ≤ n → ⊥) → SeeksValue s o a n (passed a)
  none_here h f = record { onward = omega arith; within = h; exact = λ v rest way d q l. absurd (f v rest d l) }

  pub seeks_outside : a ≤ length s → length s ≤ a → SeeksValue s o a n (passed a)
  seeks_outside h l = none_here h (λ v rest d _. omega (arith, value_inside s rest a v d))

  pub seeks_deeper : a ≤ length s → class_of (get_or s a 0) ≡ 1 → n ≡ 0 → SeeksValue s o a n (passed a)
  unfolding nesting
  seeks_deeper h f z = none_here h (λ v rest d l. go v (is_container s rest a f v d) l)
    where
      go : (v : Value) → IsContainer v → nesting v ≤ n → ⊥
      go _ (holds k is) l = omega arith

  pub seeks_scalar : (e : ℕ) → (a ≡ o → ⊥) → (class_of (get_or s a 0) ≡ 1 → ⊥) → EndsScalar s a e → SeeksValue s o a n (passed e)
  seeks_scalar e h f x =
      record {
        onward = x.onward;
        within = x.within;
        exact = λ v rest way d q l. (let c = is_scalar s rest a f v d in (scalar_other o v way a c h, x.exact v rest c d q));
      }

  -- a container is entered
  pub seeks_below : (r : Result ℕ After) → (a ≡ o → ⊥) → class_of (get_or s a 0) ≡ 1 → (n ≡ 0 → ⊥)
      → SeeksInside s o (a + 1) (eqb (get_or s a 0) 0x7B) (n - 1) r → SeeksValue s o a n r
  unfolding nesting put_value size
  seeks_below r h f z x =
      record {
        onward = omega (arith, x.onward);
        within = x.within;
        exact = λ v rest way d q l. go v rest way (opens_items s rest a f v d) l;
      }
    where
      go : (v : Value) (rest : List ℕ) (way : Way) → Opens s rest a v → nesting v ≤ n → Seeks (visits step v way a) o (a + size v) r
      go _ rest way (opens is here) l =
          same_found o r _ _ _ _ (x.exact is rest way here (omega arith)) (container_other o _ is way a h) (omega arith)

-- the root stands behind the first blanks
pub root_here : (s : List ℕ) (a : ℕ) → EndsBlanks s 0 a → (t : Tree) → text t ≡ s
    → (a ≡ length t.before) × (drop a s ≡ put_value t.value (put_blanks t.after []))
unfolding text
root_here s a b t p =
    let u = put_value t.value (put_blanks t.after []) in
    let p' : drop 0 s ≡ put_blanks t.before u = sym p in
    let x = b.exact t.before u p' (solid_value t.value (put_blanks t.after [])) in
    (omega arith, ap (λ (i : ℕ). drop i s) x ∙ past_blanks s 0 t.before u p')

pub seeks_root : (s : List ℕ) (o a : ℕ) (r : Result ℕ After) → EndsBlanks s 0 a → SeeksValue s o a max_depth r → FindsFrom s o (result_ok r)
unfolding nodes node_visits root
seeks_root s o a r b h = record { exact = go }
  where
    go : (t : Tree) → text t ≡ s → nesting t.value ≤ max_depth → end_of (result_ok r) ≡ end_among (nodes t) o
    go t p l =
        let (place, here) = root_here s a b t p in
        found_ok o r _ _ (h.exact t.value (put_blanks t.after []) [] here (stopped_end t.after) l)
        ∙ ap (λ (i : ℕ). end_among (visits step t.value [] i) o) place

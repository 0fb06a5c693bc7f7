-- The plain steps of labels pick out the nodes that have just these labels on the way to them. By the labels, the last one first: a plain step
-- takes a child that has its label, and nothing else. Assumes nothing.
use Rattle.std.specs.Prelude.{◌≡◌, ◌↔◌, ℕ}
use Rattle.std.proofs.Math.Path.{refl, ap₂, subst}
use Rattle.std.proofs.Common.{sym, ap, ◌∙◌, arith}
use mathlib.Core.List.{List, [], ◌∷◌, map, reverse, reverse_aux, reverse-append, reverse-reverse}
use mathlib.Core.List.{nil≢cons, cons≢nil, head-eq_of_cons-eq, tail-eq_of_cons-eq}
use Rattle.json_text.specs.Grammar.{Tree}
use Rattle.query.specs.Steps.{Step}
use Rattle.select.specs.Nodes.{Label, member, element, Node, Below, same, down, root}
use Rattle.select.specs.Picked.{Hits, PickedBack, Picked}
use Rattle.select.specs.Reach.{Reach}
use Rattle.select.specs.Reach as R
use Rattle.select.specs.Order.{way_unique}
use Rattle.select.specs.Visits.{Way}
use Rattle.paths.proofs.AsQuery.{plain_selector, plain_step}
use Rattle.paths.specs.Normalized.{labels_on}

-- the labels on the way, the last one first

way_on : {r n : Node} → Below r n → Way
way_on same = []
way_on (down l h c) = l ∷ way_on h

labels_back : {r n : Node} (h : Below r n) → reverse (labels_on h) ≡ way_on h
unfolding labels_on way_on
labels_back same = refl
labels_back (down l h c) = reverse-append (labels_on h) (l ∷ []) ∙ ap (λ (w : Way). l ∷ w) (labels_back h)

labels_are : {r n : Node} (h : Below r n) → labels_on h ≡ reverse (way_on h)
labels_are h = sym (reverse-reverse (labels_on h)) ∙ ap reverse (labels_back h)

reach_on : {r n : Node} (h : Below r n) → Reach r (way_on h) n
unfolding way_on
reach_on same = R.start
reach_on (down l h c) = R.down l (reach_on h) c

-- there is one way to a node
pub labels_unique : {r n : Node} (h k : Below r n) → labels_on h ≡ labels_on k
labels_unique h k = labels_are h ∙ ap reverse (way_unique (reach_on h) (reach_on k) refl).0 ∙ sym (labels_are k)

-- a plain step hits its label alone
plain_hits : (l m : Label) → Hits (plain_selector l) m ↔ (m ≡ l)
unfolding plain_selector
plain_hits (member k) (member k') = (λ e. ap member (sym e), λ e. let z : k ≡ k' = cc in z)
plain_hits (member k) (element j) = (absurd, λ e. let z : ◌≡◌ {A = ℕ} 0 1 = cc in absurd (omega arith))
plain_hits (element j) (member k) = (absurd, λ e. let z : ◌≡◌ {A = ℕ} 0 1 = cc in absurd (omega arith))
plain_hits (element j) (element j') = (λ e. ap element (sym e), λ e. let z : j ≡ j' = cc in z)

-- r has n below it, with these labels on the way
abbrev pub Led : Node → List Label → Node → Type 0
Led r ls n = (h : Below r n) × (labels_on h ≡ ls)

module _ (r : Node) where
  picked_led : (w : Way) (n : Node) → PickedBack r (map plain_step w) n → (h : Below r n) × (way_on h ≡ w)
  unfolding way_on plain_step
  picked_led [] n e = subst (λ (m : Node). (h : Below r m) × (way_on h ≡ [])) (sym e) (same, refl)
  picked_led (l ∷ w) n (m, p, t) =
      let (h, e) = picked_led w m p in
      (down t.label h t.child, ap₂ (λ (y : Label) (ys : Way). y ∷ ys) ((plain_hits l t.label).0 t.hits) e)

  led_picked : (w : Way) {n : Node} (h : Below r n) → way_on h ≡ w → PickedBack r (map plain_step w) n
  unfolding way_on plain_step
  led_picked [] same e = refl
  led_picked [] (down l h c) e = absurd (cons≢nil e)
  led_picked (l ∷ w) same e = absurd (nil≢cons e)
  led_picked (l ∷ w) (down {m} y h c) e = (
    m,
    led_picked w h (tail-eq_of_cons-eq e),
    record { label = y; child = c; hits = (plain_hits l y).1 (head-eq_of_cons-eq e) },
  )

map-reverse : {A B : Type 0} (f : A → B) (xs : List A) → reverse (map f xs) ≡ map f (reverse xs)
map-reverse {A} {B} f xs = aux xs []
  where
    aux : (xs ys : List A) → reverse_aux (map f xs) (map f ys) ≡ map f (reverse_aux xs ys)
    aux [] ys = refl
    aux (x ∷ xs) ys = aux xs (x ∷ ys)

pub plain_picked : (t : Tree) (ls : List Label) (n : Node) → Picked t (map plain_step ls) n ↔ Led (root t) ls n
unfolding Picked
plain_picked t ls n = (
  λ x.
      let (h, e) = picked_led (root t) (reverse ls) n (subst at (map-reverse plain_step ls) x) in
      (h, labels_are h ∙ ap reverse e ∙ reverse-reverse ls),
  λ x. subst at (sym (map-reverse plain_step ls)) (led_picked (root t) (reverse ls) x.0 (sym (labels_back x.0) ∙ ap reverse x.1)),
)
  where
    at : List Step → Type 0
    at q = PickedBack (root t) q n

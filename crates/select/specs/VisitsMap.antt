-- Walks with different states visit the same nodes: a map of states that goes with the steps goes with the visits.
-- By induction on the value, item by item. Assumes nothing.
use Rattle.std.specs.Prelude.{◌≡◌, refl, List, ◌∷◌, ◌++◌, map, ℕ, ◌+◌, length}
use Rattle.std.proofs.Common.{sym, ap, ap₂, ◌∙◌}
use Rattle.std.proofs.lemmas.List.{map-append}
use Rattle.json_text.specs.Grammar.{Kind, Value, literal, number, string, container, Items, empty, items, More, end, more}
use Rattle.select.specs.Nodes.{Label, size, key_size, label_of}
use Rattle.select.specs.Visits.{Visit, visit, visits, items_visits, more_visits}

-- an image of two lists is the images one after the other
images : {A B : Type 0} (f : A → B) (xs ys : List A) {xs' ys' : List B} → xs' ≡ map f xs → ys' ≡ map f ys → xs' ++ ys' ≡ map f (xs ++ ys)
images f xs ys p q = ap₂ (λ (x y : List _). x ++ y) p q ∙ sym (map-append f xs ys)

-- the same node, with another state
abbrev pub over : {S T : Type 0} → (S → T) → Visit S → Visit T
over f v = record { state = f v.state; node = v.node }

module _ {S T : Type 0} (next : S → Label → S) (next' : T → Label → T) (f : S → T) (goes : (s : S) (l : Label) → f (next s l) ≡ next' (f s) l) where
  mutual
    unfolding visits

    pub visits_map : (v : Value) (s : S) (a : ℕ) → visits next' v (f s) a ≡ map (over f) (visits next v s a)
    visits_map (literal l) s a = refl
    visits_map (number g n x e) s a = refl
    visits_map (string cs) s a = refl
    visits_map (container k is) s a = ap (λ (z : List (Visit T)). visit (f s) (container k is) a ∷ z) (items_visits_map is s (a + 1))

    pub items_visits_map : {k : Kind} (is : Items k) (s : S) (a : ℕ) → items_visits next' is (f s) a ≡ map (over f) (items_visits next is s a)
    items_visits_map (empty w) s a = refl
    items_visits_map {k} (items w key v m) s a =
        let b = a + length w + key_size k key in
        let l = label_of k key 0 in
        images
        (over f)
        (visits next v (next s l) b)
        (more_visits next m s 1 (b + size v))
        (ap (λ (x : T). visits next' v x b) (sym (goes s l)) ∙ visits_map v (next s l) b)
        (more_visits_map m s 1 (b + size v))

    pub more_visits_map : {k : Kind} (m : More k) (s : S) (j a : ℕ) → more_visits next' m (f s) j a ≡ map (over f) (more_visits next m s j a)
    more_visits_map (end w) s j a = refl
    more_visits_map {k} (more w w' key v m) s j a =
        let b = a + length w + 1 + length w' + key_size k key in
        let l = label_of k key j in
        images
        (over f)
        (visits next v (next s l) b)
        (more_visits next m s (j + 1) (b + size v))
        (ap (λ (x : T). visits next' v x b) (sym (goes s l)) ∙ visits_map v (next s l) b)
        (more_visits_map m s (j + 1) (b + size v))

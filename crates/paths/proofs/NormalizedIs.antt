-- The normalized paths of the grammar are what the function writes: of labels whose names are code points alone, and of no others.
-- By the selectors, one by one. Assumes nothing.
use Rattle.std.specs.Prelude.{◌≡◌, refl, ◌↔◌, List, [], ◌∷◌, map, ℕ}
use Rattle.std.proofs.Common.{sym, ap, ap₂, subst, ◌∙◌}
use Rattle.query.specs.Grammar.{position_of}
use Rattle.select.specs.Nodes.{Label}
use Rattle.paths.specs.Normalized.{Selector, name, index, Path, put_selector, put_path, text, selector_label, NormalizedPath}
use Rattle.paths.specs.Rendered.{put_label, put_labels, path_text}
use Rattle.paths.specs.Whole.{WholeLabel, WholeLabels, none, more}
use Rattle.paths.specs.Whole as W
use Rattle.paths.specs.IndexTree.{position_written, position_of_lem}
use Rattle.paths.proofs.NameTree.{name_written, name_whole, name_of}

-- one selector

selector_written : (x : Selector) (s : List ℕ) → 0x5B ∷ put_selector x (0x5D ∷ s) ≡ put_label (selector_label x) s
unfolding put_selector put_label selector_label
selector_written (name cs) s = ap (λ (u : List ℕ). 0x5B ∷ 0x27 ∷ u) (name_written cs (0x27 ∷ 0x5D ∷ s))
selector_written (index p) s = ap (λ (u : List ℕ). 0x5B ∷ u) (position_written p (0x5D ∷ s))

selector_whole : (x : Selector) → WholeLabel (selector_label x)
unfolding selector_label
selector_whole (name cs) = W.name (name_whole cs)
selector_whole (index p) = W.position (position_of p)

selector_of : {l : Label} → WholeLabel l → (x : Selector) × (selector_label x ≡ l)
unfolding selector_label
selector_of (W.name w) = let (cs, e) = name_of w in (name cs, ap Label.member e)
selector_of (W.position j) = let (p, e) = position_of_lem j in (index p, ap Label.element e)

-- all of them

path_written : (p : Path) (s : List ℕ) → put_path p s ≡ put_labels (map selector_label p) s
unfolding put_path put_labels
path_written [] s = refl
path_written (x ∷ p) s = rw (path_written p s) (selector_written x (put_labels (map selector_label p) s))

path_whole : (p : Path) → WholeLabels (map selector_label p)
path_whole [] = none
path_whole (x ∷ p) = more (selector_whole x) (path_whole p)

path_of : {ls : List Label} → WholeLabels ls → (p : Path) × (map selector_label p ≡ ls)
path_of none = ([], refl)
path_of (more w ws) =
    let (x, e) = selector_of w in let (p, f) = path_of ws in
    (x ∷ p, ap₂ (λ (l : Label) (ls : List Label). l ∷ ls) e f)

text_written : (p : Path) → text p ≡ path_text (map selector_label p)
unfolding text path_text
text_written p = ap (λ (u : List ℕ). 0x24 ∷ u) (path_written p [])

-- both ways
pub normalized_is : (ls : List Label) (s : List ℕ) → NormalizedPath ls s ↔ (WholeLabels ls × (s ≡ path_text ls))
normalized_is ls s = (there, back)
  where
    there : NormalizedPath ls s → WholeLabels ls × (s ≡ path_text ls)
    there n =
        let e = n.labels_are in
        (subst WholeLabels e (path_whole n.path), sym n.written ∙ text_written n.path ∙ ap path_text e)

    back : WholeLabels ls × (s ≡ path_text ls) → NormalizedPath ls s
    back (w, e) =
        let (p, f) = path_of w in
        record { path = p; labels_are = f; written = text_written p ∙ ap path_text f ∙ sym e }

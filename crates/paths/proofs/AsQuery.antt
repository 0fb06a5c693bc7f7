-- A normalized path is the text of a query whose steps are the plain steps of its labels: what stands between its brackets stands between a
-- query's too, and means the same there. So the path tells its labels. Assumes nothing.
use Rattle.std.specs.Prelude.{◌≡◌, refl, ◌↔◌, false, ℕ, suc}
use Rattle.std.proofs.Common.{sym, ap₂, ◌∙◌, arith}
use Rattle.std.proofs.Math.Path.{ap, subst}
use mathlib.Core.List.{List, [], ◌∷◌, map}
use Rattle.std.proofs.Math.ListN.{length}
use Rattle.encoding.specs.Bytes.{In, put_blanks}
use Rattle.encoding.specs.BytesLaws.{make, from_low, to_high}
use Rattle.encoding.specs.Hex as H
use Rattle.encoding.specs.Hex.{Hex}
use Rattle.query.specs.Escapes as E
use Rattle.query.specs.Escapes.{HexChar, put_hex_char, hex_char_point}
use Rattle.query.specs.Grammar as Q
use Rattle.query.specs.Grammar.{single, Inner, quoted, position, bracketed, plain, Query, put_inner, put_deep, put_segment, put_spaced, put_query}
use Rattle.query.specs.Grammar.{quoted_points, inner_selector, segment_step, steps_of}
use Rattle.query.proofs.Says.{steps_in_text}
use Rattle.query.specs.Steps as S
use Rattle.query.specs.Steps.{Step}
use Rattle.query.specs.Verdict.{steps_in}
use Rattle.select.specs.Nodes.{Label, member, element}
use Rattle.paths.specs.Fits.{Fits, AllFit}
use Rattle.paths.specs.Normalized.{Escapable, backspace, form, line, carriage, tabulator, apostrophe, backslash}
use Rattle.paths.specs.Normalized.{LowerHex, digit, letter, Control, up_to_7, b, e_to_f, from_10, put_control, control_point}
use Rattle.paths.specs.Normalized.{Char, low, mid, high, wide, escaped, control, put_char, put_chars, char_point}
use Rattle.paths.specs.Normalized.{Selector, name, index, Path, put_selector, put_path, text, selector_label, NormalizedPath}
use Rattle.paths.proofs.NormalizedIs.{normalized_is}
use Rattle.paths.specs.Rendered.{path_text}

-- the step that takes what has this label, and nothing else
unfoldable pub plain_selector : Label → S.Selector
plain_selector (member k) = S.name k
plain_selector (element j) = S.position j

unfoldable pub plain_step : Label → Step
unfolding plain_selector
plain_step l = record { deep = false; selector = plain_selector l }

-- characters

as_escaped : Escapable → Q.Char single
as_escaped backspace = Q.escaped E.backspace
as_escaped form = Q.escaped E.form
as_escaped line = Q.escaped E.line
as_escaped carriage = Q.escaped E.carriage
as_escaped tabulator = Q.escaped E.tabulator
as_escaped apostrophe = Q.own
as_escaped backslash = Q.escaped E.backslash

nought : In 0x30 0x39
nought = record { byte = 0x30; ok = tt }

-- `00` and two digits
noughts : (tens last : Hex) → HexChar
noughts x y = E.usual (E.digit nought) (H.digit nought) x y

as_hex : LowerHex → Hex
as_hex (digit x) = H.digit x
as_hex (letter x) = H.lower x

as_control : Control → HexChar
as_control (up_to_7 x) = noughts (H.digit nought) (H.digit (make x.byte (from_low x) (omega (arith, to_high x))))
as_control b = noughts (H.digit nought) (H.lower (record { byte = 0x62; ok = tt }))
as_control (e_to_f x) = noughts (H.digit nought) (H.lower (make x.byte (omega (arith, from_low x)) (to_high x)))
as_control (from_10 x) = noughts (H.digit (record { byte = 0x31; ok = tt })) (as_hex x)

as_char : Char → Q.Char single
as_char (low x) = Q.low x
as_char (mid x) = Q.mid x
as_char (high x) = Q.high x
as_char (wide p) = Q.wide p
as_char (escaped x) = as_escaped x
as_char (control x) = Q.unicode (as_control x)

-- their bytes

control_bytes : (x : Control) (s : List ℕ) → put_hex_char (as_control x) s ≡ put_control x s
unfolding put_hex_char as_control noughts nought make as_hex put_control
control_bytes (up_to_7 x) s = refl
control_bytes b s = refl
control_bytes (e_to_f x) s = refl
control_bytes (from_10 (digit x)) s = refl
control_bytes (from_10 (letter x)) s = refl

char_bytes : (c : Char) (s : List ℕ) → Q.put_char (as_char c) s ≡ put_char c s
unfolding Q.put_char as_char as_escaped put_char
char_bytes (low x) s = refl
char_bytes (mid x) s = refl
char_bytes (high x) s = refl
char_bytes (wide p) s = refl
char_bytes (escaped backspace) s = refl
char_bytes (escaped form) s = refl
char_bytes (escaped line) s = refl
char_bytes (escaped carriage) s = refl
char_bytes (escaped tabulator) s = refl
char_bytes (escaped apostrophe) s = refl
char_bytes (escaped backslash) s = refl
char_bytes (control x) s = ap (λ (u : List ℕ). 0x5C ∷ 0x75 ∷ u) (control_bytes x s)

chars_bytes : (cs : List Char) (s : List ℕ) → Q.put_chars (map as_char cs) s ≡ put_chars cs s
unfolding Q.put_chars put_chars
chars_bytes [] s = refl
chars_bytes (c ∷ cs) s = ap (Q.put_char (as_char c)) (chars_bytes cs s) ∙ char_bytes c (put_chars cs s)

-- and their code points

control_point_lem : (x : Control) → hex_char_point (as_control x) ≡ control_point x
unfolding hex_char_point as_control noughts nought make as_hex control_point
control_point_lem (up_to_7 x) = omega arith
control_point_lem b = refl
control_point_lem (e_to_f x) = omega arith
control_point_lem (from_10 (digit x)) = omega arith
control_point_lem (from_10 (letter x)) = omega arith

char_point_lem : (c : Char) → Q.char_point (as_char c) ≡ char_point c
unfolding Q.char_point as_char as_escaped char_point
char_point_lem (low x) = refl
char_point_lem (mid x) = refl
char_point_lem (high x) = refl
char_point_lem (wide p) = refl
char_point_lem (escaped backspace) = refl
char_point_lem (escaped form) = refl
char_point_lem (escaped line) = refl
char_point_lem (escaped carriage) = refl
char_point_lem (escaped tabulator) = refl
char_point_lem (escaped apostrophe) = refl
char_point_lem (escaped backslash) = refl
char_point_lem (control x) = control_point_lem x

chars_points : (cs : List Char) → quoted_points (map as_char cs) ≡ map char_point cs
unfolding quoted_points
chars_points [] = refl
chars_points (c ∷ cs) = ap₂ (λ (n : ℕ) (ns : List ℕ). n ∷ ns) (char_point_lem c) (chars_points cs)

-- paths

as_inner : (x : Selector) → Fits (selector_label x) → Inner
unfolding selector_label
as_inner (name cs) h = quoted single (map as_char cs)
as_inner (index p) h = position p h

as_query : (p : Path) → AllFit (map selector_label p) → Query
as_query [] h = []
as_query (x ∷ p) h = record { before = []; segment = bracketed plain [] (as_inner x h.0) [] } ∷ as_query p h.1

inner_bytes : (x : Selector) (h : Fits (selector_label x)) (s : List ℕ) → put_inner (as_inner x h) s ≡ put_selector x s
unfolding selector_label put_inner as_inner put_selector
inner_bytes (name cs) h s = ap (λ (u : List ℕ). 0x27 ∷ u) (chars_bytes cs (0x27 ∷ s))
inner_bytes (index p) h s = refl

query_bytes : (p : Path) (h : AllFit (map selector_label p)) (s : List ℕ) → put_query (as_query p h) s ≡ put_path p s
unfolding put_query put_spaced put_segment put_deep put_blanks as_query put_path
query_bytes [] h s = refl
query_bytes (x ∷ p) h s =
    ap (λ (u : List ℕ). 0x5B ∷ put_inner (as_inner x h.0) (0x5D ∷ u)) (query_bytes p h.1 s)
    ∙ ap (λ (u : List ℕ). 0x5B ∷ u) (inner_bytes x h.0 (0x5D ∷ put_path p s))

inner_selector_lem : (x : Selector) (h : Fits (selector_label x)) → inner_selector (as_inner x h) ≡ plain_selector (selector_label x)
unfolding selector_label inner_selector as_inner plain_selector
inner_selector_lem (name cs) h = ap S.name (chars_points cs)
inner_selector_lem (index p) h = refl

query_steps : (p : Path) (h : AllFit (map selector_label p)) → steps_of (as_query p h) ≡ map plain_step (map selector_label p)
unfolding steps_of segment_step as_query plain_step
query_steps [] h = refl
query_steps (x ∷ p) h =
    ap₂ (λ (y : S.Selector) (ys : List Step). record { deep = false; selector = y } ∷ ys) (inner_selector_lem x h.0) (query_steps p h.1)

query_size : (p : Path) (h : AllFit (map selector_label p)) → length (as_query p h) ≡ length (map selector_label p)
unfolding as_query
query_size [] h = refl
query_size (x ∷ p) h = ap suc (query_size p h.1)

-- the query that a path is
pub record PathTree (ls : List Label) (s : List ℕ) : Type 0 where
  pub tree : Query
  pub written : Q.text tree ≡ s
  pub steps : steps_of tree ≡ map plain_step ls
  pub size : length tree ≡ length ls

module _ {ls : List Label} {s : List ℕ} (n : NormalizedPath ls s) (h : AllFit ls) where
  pub path_tree : PathTree ls s
  unfolding Q.text text
  path_tree =
      let p = n.path in
      let k : AllFit (map selector_label p) = subst AllFit (sym n.labels_are) h in
      record {
        tree = as_query p k;
        written = ap (λ (u : List ℕ). 0x24 ∷ u) (query_bytes p k []) ∙ n.written;
        steps = query_steps p k ∙ ap (map plain_step) n.labels_are;
        size = query_size p k ∙ ap length n.labels_are;
      }

  pub path_steps : steps_in s ≡ map plain_step ls
  path_steps = let x = path_tree in ap steps_in (sym x.written) ∙ steps_in_text x.tree ∙ x.steps

-- a plain step tells its label

told : S.Selector → Label
told (S.name k) = member k
told S.every = element 0
told (S.position j) = element j

label_told : (l : Label) → told (plain_step l).selector ≡ l
unfolding told plain_step plain_selector
label_told (member k) = refl
label_told (element j) = refl

labels_told : (ls : List Label) → map (λ (x : Step). told x.selector) (map plain_step ls) ≡ ls
labels_told [] = refl
labels_told (l ∷ ls) = ap₂ (λ (x : Label) (xs : List Label). x ∷ xs) (label_told l) (labels_told ls)

-- so two paths are the same exactly if their labels are
pub same_path :
    {ls ls' : List Label} {s s' : List ℕ} → NormalizedPath ls s → NormalizedPath ls' s' → AllFit ls → AllFit ls' → (s ≡ s') ↔ (ls ≡ ls')
same_path {ls} {ls'} {s} {s'} n n' h h' = (
  λ e.
      let steps : map plain_step ls ≡ map plain_step ls' = sym (path_steps n h) ∙ ap steps_in e ∙ path_steps n' h' in
      sym (labels_told ls) ∙ ap (map (λ (x : Step). told x.selector)) steps ∙ labels_told ls',
  λ e. ((normalized_is ls s).0 n).1 ∙ ap path_text e ∙ sym ((normalized_is ls' s').0 n').1,
)

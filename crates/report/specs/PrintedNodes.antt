-- Without a refusal the text lists the nodes that the query picks out, each by its span: all of them are written to the list.
use Rattle.std.specs.Prelude.{◌≡◌, refl, List, [], ◌∷◌, ◌++◌, ℕ, zero, suc, ◌+◌, ◌*◌, length, take, drop, get_or}
use Rattle.std.proofs.Common.{ap, sym, ◌∙◌, append-nil, add-zero, arith, take-append-drop, get_or-drop, drop-drop}
use Rattle.encoding.specs.Ascii.{ascii}
use Rattle.encoding.specs.Verdict.{Verdict}
use Rattle.select.specs.Ways.{Span}
use Rattle.answers.specs.Lister.{pairs_of, or_else, input_verdict, spans_in, left_over, list_verdict, verdict}
use Rattle.answers.specs.Lister.{written_if, written, flat, ground, place, pairs, list_after}
use Rattle.text.specs.Decimal.{decimal}
use Rattle.lines.specs.Lines.{line, pair_line, pair_lines, matches}
use Rattle.report.specs.Output.{report_on, fresh_list}
use Rattle.lines.specs.LineLaws.{report_taken}

-- a line for each node, numbered from n on
unfoldable pub node_lines : (n : ℕ) → List Span → List ℕ
unfolding line decimal
node_lines n [] = []
node_lines n (x ∷ xs) = line (decimal n) (decimal x.first ∷ decimal x.end ∷ []) ++ node_lines (n + 1) xs

nodes_more : (n : ℕ) (x : Span) (xs : List Span)
    → node_lines n (x ∷ xs) ≡ line (decimal n) (decimal x.first ∷ decimal x.end ∷ []) ++ node_lines (n + 1) xs
unfolding node_lines
nodes_more n x xs = refl

pairs_more : (i k : ℕ) (l : List ℕ) → pair_lines i (suc k) l ≡ pair_line i l ++ pair_lines (i + 1) k l
unfolding pair_lines
pairs_more i k l = refl

-- pair i of a list that holds a span there
pair_line_lem :
    (x : Span) (i : ℕ) (l rest : List ℕ) → drop (i * 2) l ≡ x.first ∷ x.end ∷ rest →
    pair_line i l ≡ line (decimal (i + 1)) (decimal x.first ∷ decimal x.end ∷ [])
pair_line_lem x i l rest e =
    let f : get_or l (i * 2) 0 ≡ x.first =
    ap (λ (k : ℕ). get_or l k 0) (sym (add-zero (i * 2))) ∙ sym (get_or-drop (i * 2) l 0 0) ∙ ap (λ (m : List ℕ). get_or m 0 0) e in
    let g : get_or l (i * 2 + 1) 0 ≡ x.end = sym (get_or-drop (i * 2) l 1 0) ∙ ap (λ (m : List ℕ). get_or m 1 0) e in
    rw (f, g)

-- the pairs of a list that holds the spans from pair i on
pairs_lines :
    (xs : List Span) (i : ℕ) (l rest : List ℕ) → drop (i * 2) l ≡ flat xs ++ rest → pair_lines i (length xs) l ≡ node_lines (i + 1) xs
unfolding pair_lines node_lines flat
pairs_lines [] i l rest e = refl
pairs_lines (x ∷ xs) i l rest e =
    let n : (i + 1) * 2 ≡ i * 2 + 2 = omega arith in
    let d : drop ((i + 1) * 2) l ≡ flat xs ++ rest = rw n (sym (drop-drop 2 (i * 2) l) ∙ ap (drop 2) e) in
    pairs_more i (length xs) l
    ∙ ap (λ (t : List ℕ). t ++ pair_lines (i + 1) (length xs) l) (pair_line_lem x i l (flat xs ++ rest) e)
    ∙ ap (λ (t : List ℕ). line (decimal (i + 1)) (decimal x.first ∷ decimal x.end ∷ []) ++ t) (pairs_lines xs (i + 1) l rest d)
    ∙ sym (nodes_more (i + 1) x xs)

-- the text for nodes
unfoldable pub nodes_text : List Span → List ℕ
unfolding line decimal node_lines
nodes_text xs = line (ascii "matches") (decimal (length xs) ∷ []) ++ node_lines 1 xs

matches_nodes : (xs : List Span) (rest : List ℕ) → matches (length xs) (flat xs ++ rest) ≡ nodes_text xs
unfolding nodes_text
matches_nodes xs rest =
    ap (λ (t : List ℕ). line (ascii "matches") (decimal (length xs) ∷ []) ++ t) (pairs_lines xs 0 (flat xs ++ rest) rest refl)

-- no ground, neither of the first verdict nor of the second
none_of : (v u : Verdict) → (or_else v u).ground ≡ 0 → (v.ground ≡ 0) × (u.ground ≡ 0)
unfolding or_else
none_of v u e = go v.ground refl e
  where
    go : (g : ℕ) → v.ground ≡ g → (elim g as (λ _. Verdict) [ zero ↦ u | suc g ↦ v ]).ground ≡ 0 → (v.ground ≡ 0) × (u.ground ≡ 0)
    go zero f e = (f, e)
    go (suc g) f e = absurd (omega arith)

none_left : (xs : List Span) → (left_over xs).ground ≡ 0 → xs ≡ []
unfolding left_over
none_left [] e = refl
none_left (x ∷ xs) e = absurd (omega arith)

-- all nodes are written
written_if_lem : (g : ℕ) (xs : List Span) (l : List ℕ) → g ≡ 0 → (left_over (drop (pairs_of l) xs)).ground ≡ 0 → written_if g xs l ≡ xs
unfolding written_if
written_if_lem (suc g) xs l e f = absurd (omega arith)
written_if_lem zero xs l e f =
    let d : drop (pairs_of l) xs ≡ [] = none_left (drop (pairs_of l) xs) f in
    sym (append-nil (take (pairs_of l) xs)) ∙ ap (λ (t : List Span). take (pairs_of l) xs ++ t) (sym d) ∙ take-append-drop (pairs_of l) xs

written_all : (q r l : List ℕ) → ground q r l ≡ 0 → written q r l ≡ spans_in q r
unfolding ground verdict list_verdict written
written_all q r l e =
    let z = none_of (input_verdict q r) (list_verdict (spans_in q r) l) e in
    written_if_lem (input_verdict q r).ground (spans_in q r) l z.0 z.1

pub printed_nodes : (q r : List ℕ) → ground q r fresh_list ≡ 0 → report_on q r ≡ nodes_text (spans_in q r)
unfolding report_on pairs list_after
printed_nodes q r e =
    let xs = written q r fresh_list in
    report_taken (ground q r fresh_list) (place q r fresh_list) (length xs) (flat xs ++ drop (2 * length xs) fresh_list) e
    ∙ matches_nodes xs (drop (2 * length xs) fresh_list)
    ∙ ap nodes_text (written_all q r fresh_list e)

-- The third demand speaks of something: what it takes as given is met by the trees of the sample rows, and at the limits,
-- with 512 levels of nesting and 16 steps; by computing the limits and the nodes of closed trees. Assumes nothing.
use Rattle.std.specs.Prelude.{◌≡◌, refl, List, [], ◌∷◌, ◌++◌, map, Bool, true, ◌&&◌, ℕ, ◌*◌, leb, length, take, drop}
use Rattle.std.proofs.Common.{ap, arith, leb-true}
use Rattle.std.proofs.Math.Bool.{and-eq-true_iff}
use Rattle.std.proofs.lemmas.List.{length-map}
use Rattle.encoding.specs.Bytes.{space}
use Rattle.json_text.specs.Grammar.{Char, Tree, nesting}
use Rattle.json_text.specs.Grammar as J
use Rattle.json_text.specs.Verdict.{max_bytes, max_depth}
use Rattle.query.specs.Steps.{Step}
use Rattle.query.specs.Grammar.{Query, steps_of}
use Rattle.query.specs.Grammar as Q
use Rattle.query.specs.Verdict.{max_query_bytes, max_steps}
use Rattle.select.specs.Nodes.{Node}
use Rattle.select.specs.Ways.{span_of, spans}
use Rattle.answers.specs.Enumerates.{Enumerates}
use Rattle.answers.specs.EnumeratesLaws.{enumerates_spans}
use Rattle.answers.specs.Demand3.{Given}
use Rattle.answers.specs.Table.{Row, old, table}
use Rattle.answers.specs.Trees.{byte, step, tight, alone, digit, member, a, named, steps as steps_of_depth, levels}

-- $.a.a .., with so many steps
abbrev steps : ℕ → Query
steps n = steps_of_depth Q.plain n

-- nodes are counted by computing
count : {t : Tree} {q : List Step} {ns : List Node} → Enumerates t q ns → length ns ≡ length (spans t q)
count {ns = ns} x = omega (arith, length-map ns span_of, ap length (enumerates_spans x))

-- and so are the limits
unfoldable within : Query → Tree → List ℕ → Bool
unfolding Q.text J.text nesting spans steps_of
within q t list =
    leb (length (Q.text q)) max_query_bytes && (leb (length q) max_steps && (leb (length (J.text t)) max_bytes &&
    (leb (nesting t.value) max_depth && leb (2 * length (spans t (steps_of q))) (length list))))

given : (q : Query) (t : Tree) (list : List ℕ) → within q t list ≡ true → Given q t list
unfolding within
given q t list e =
    let (a, e₁) = (and-eq-true_iff (leb (length (Q.text q)) max_query_bytes) _).0 e in
    let (b, e₂) = (and-eq-true_iff (leb (length q) max_steps) _).0 e₁ in
    let (c, e₃) = (and-eq-true_iff (leb (length (J.text t)) max_bytes) _).0 e₂ in
    let (d, e₄) = (and-eq-true_iff (leb (nesting t.value) max_depth) _).0 e₃ in
    record {
      query_bytes = leb-true (length (Q.text q)) max_query_bytes a;
      query_steps = leb-true (length q) max_steps b;
      record_bytes = leb-true (length (J.text t)) max_bytes c;
      record_levels = leb-true (nesting t.value) max_depth d;
      pair_for_each = λ ns x. omega (arith, count x, leb-true (2 * length (spans t (steps_of q))) (length list) e₄);
    }

abbrev M : Char
M = J.mid (byte 0x4D tt)

-- both at their limit, and one node
pub limits_met : Given (steps max_steps) (alone (levels max_depth)) (91 ∷ 92 ∷ [])
unfolding within
limits_met = given (steps max_steps) (alone (levels max_depth)) (91 ∷ 92 ∷ []) refl

pub steps_at_limit : length (steps max_steps) ≡ max_steps
steps_at_limit = refl

pub levels_at_limit : nesting (levels max_depth) ≡ max_depth
unfolding nesting
levels_at_limit = refl

pub one_node_at_limits : (ns : List Node) → Enumerates (alone (levels max_depth)) (steps_of (steps max_steps)) ns → length ns ≡ 1
unfolding spans steps_of
one_node_at_limits ns x = count x

-- trees of a query and a record, and a list, of which demand 3 speaks
pub record Case : Type 0 where
  pub query : Query
  pub tree : Tree
  pub list : List ℕ
  pub met : Given query tree list

abbrev case : (q : Query) (t : Tree) → within q t old ≡ true → Case
case q t e = record { query = q; tree = t; list = old; met = given q t old e }

-- the sample rows in which all nodes are listed, as trees
pub cases : List Case
unfolding within
cases =
    case [] (alone (digit 0x37 tt)) refl ∷
    case
    (step Q.plain (Q.shorthand (Q.upper (byte 0x4D tt)) []) ∷ [])
    (alone (J.container J.object (J.items [] (tight (M ∷ [])) (digit 0x31 tt) (J.more [] [] (tight (M ∷ [])) (digit 0x32 tt) (J.end [])))))
    refl ∷
    case
    (step Q.deep (named 0x61 tt) ∷ step Q.deep (named 0x62 tt) ∷ [])
    (alone (member (a ∷ []) (member (a ∷ []) (member (J.high (byte 0x62 tt) ∷ []) (digit 0x31 tt)))))
    refl ∷
    case
    (step Q.deep Q.Short.star ∷ [])
    (alone
    (J.container J.array
    (J.items [] tt (digit 0x33 tt) (J.more [] [] tt (J.container J.array (J.items [] tt (digit 0x34 tt) (J.end []))) (J.end [])))))
    refl ∷
    case
    (record { before = space ∷ []; segment = Q.bracketed Q.plain [] (Q.quoted Q.single (Q.high (byte 0x61 tt) ∷ [])) (space ∷ []) } ∷ [])
    (alone (member (a ∷ []) (J.container J.array (J.empty []))))
    refl ∷
    case
    (step Q.plain (Q.shorthand (Q.lower (byte 0x6C tt)) (Q.first (Q.lower (byte 0x6F tt)) ∷ Q.first (Q.lower (byte 0x74 tt)) ∷ [])) ∷ [])
    (alone
    (member
    (J.high (byte 0x78 tt) ∷ [])
    (J.string
    (J.high (byte 0x6C tt) ∷ J.high (byte 0x6F tt) ∷ J.high (byte 0x74 tt) ∷ J.escaped J.quote ∷
    J.mid (byte 0x3A tt) ∷ J.mid (byte 0x39 tt) ∷ J.high (byte 0x7D tt) ∷ []))))
    refl ∷
    []

-- they are written as those rows are
pub cases_are : map (λ (c : Case). Q.text c.query ∷ J.text c.tree ∷ c.list ∷ []) cases ≡
    map (λ (r : Row). r.query ∷ r.text ∷ r.list ∷ []) (take 4 table ++ take 2 (drop 5 table))
unfolding cases Q.text J.text
cases_are = refl

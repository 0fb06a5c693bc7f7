-- What the name of a query takes (change request S-2): where no backslash stands, what is written as the same bytes; and nothing whose name has
-- half of a surrogate pair. Assumes nothing.
use Rattle.std.specs.Prelude.{◌≡◌, refl, ◌↔◌}
use Rattle.std.proofs.Common.{sym, subst}
use mathlib.Core.List.{List, [], Memᴰ}
use Rattle.encoding.specs.Points.{HasHalf}
use Rattle.encoding.specs.Unescape.{NoBackslash}
use Rattle.encoding.specs.UnescapeLaws.{as_written}
use Rattle.json_text.specs.Grammar as J
use Rattle.json_text.specs.Points.{points_of}
use Rattle.json_text.specs.PointsLaws.{chars_spell}
use Rattle.query.specs.Grammar as Q
use Rattle.query.specs.Grammar.{Quote, First, Later, Query, put_first, put_laters, quoted_points, short_points, steps_of}
use Rattle.query.specs.NamesLaws.{quoted_spells, short_spells, name_whole}
use Rattle.query.specs.Steps.{Selector, name, every, position, Step}
use Rattle.select.specs.Nodes.{member}
use Rattle.select.specs.Picked.{Hits}

-- UTF-8 is canonical: a quoted name, and a shorthand one
module _ (cs : List J.Char) (plain : NoBackslash (J.put_chars cs [])) where
  pub quoted_as_written : {q : Quote} (ns : List (Q.Char q)) → NoBackslash (Q.put_chars ns [])
      → (Q.put_chars ns [] ≡ J.put_chars cs []) ↔ Hits (name (quoted_points ns)) (member (points_of cs))
  quoted_as_written ns f = as_written (quoted_spells ns) (chars_spell cs) f plain

  pub short_as_written : (x : First) (xs : List Later) → NoBackslash (put_first x (put_laters xs []))
      → (put_first x (put_laters xs []) ≡ J.put_chars cs []) ↔ Hits (name (short_points x xs)) (member (points_of cs))
  short_as_written x xs f = as_written (short_spells x xs) (chars_spell cs) f plain

-- of a member whose name has half of a pair: it equals no name of a query, and only `*` takes it
pub half_only_every : (t : Query) (x : Step) → Memᴰ x (steps_of t) → (cs : List J.Char) → HasHalf (points_of cs)
    → Hits x.selector (member (points_of cs)) → x.selector ≡ every
half_only_every t x at cs half hit = by x.selector refl hit
  where
    by : (s : Selector) → x.selector ≡ s → Hits s (member (points_of cs)) → s ≡ every
    by every e h = refl
    by (name w) e h = absurd (name_whole t w x at e (subst HasHalf (sym h) half))
    by (position j) e h = absurd h

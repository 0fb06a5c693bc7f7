-- The operand of a step that was found: a name is decoded in the buffer at its own place, and its bounds there are found again
-- in the number that they make. Assumes nothing.
use mathlib.Core.Path.{◌≡◌, refl, ap, sym, subst, ◌∙◌}
use mathlib.Core.List.{List, []}
use mathlib.Core.Bool.{true, false, false≢true}
use Prim.Native.Nat.{ℕ, ◌+◌, ◌*◌, ◌≤◌}
use native.Mathlib.Omega.{arith}
use lib.ListN.{length}
use lib.Seq.{slice}
use Rattle.encoding.specs.Points.{Utf8Of, utf8s, none}
use Rattle.encoding.specs.Unescape.{unescaped, spelt, Spells}
use Rattle.encoding.specs.UnescapeLaws.{unescaped-nil, spelt_is}
use Rattle.names.specs.Names.{names_size, Written}
use Rattle.names.specs.WrittenLaws.{written_here, written_below}
use Rattle.query.specs.Grammar as G
use Rattle.query.specs.Grammar.{Short, Inner, Segment}
use Rattle.query.specs.NamesLaws.{short_spells, quoted_spells}
use Rattle.query.specs.Read.{name_bytes}
use Rattle.query.specs.Steps.{Step}
use Rattle.query.specs.Verdict.{decoded, decoded_step}
use Rattle.query.specs.Written.{short_written, inner_written, segment_written}
use Rattle.query_steps.specs.declared.Found.{Found}
use Rattle.query_steps.specs.declared.Taking.{Taking}
use Rattle.query_steps.specs.declared.Taking.TheVariants.{Every, Name, Position}
use Rattle.query_steps.specs.Reader.{selector_at, Bounded, StepTaken}
use Rattle.query_parser.specs.Holds.{name_start_of, name_end_of}
use Rattle.query_parser.specs.Compiles.{Stands, Decodes}

-- what a name decodes to is the UTF-8 of the code points that are read from it
abbrev Decodable : List ℕ → Type 0
Decodable w = Utf8Of (unescaped w) (spelt w)

spells_decodable : {w points : List ℕ} → Spells w points → Decodable w
spells_decodable {w} h = subst (Utf8Of (unescaped w)) (sym (spelt_is h)) h.decoded

nothing_decodable : Decodable []
unfolding utf8s
nothing_decodable = spells_decodable {points = []} (record { decoded = record { written = unescaped-nil; ranged = none } })

segment_decodable : (x : Segment) → Decodable (name_bytes (segment_written x).selector)
unfolding segment_written short_written inner_written
segment_decodable (G.dotted d Short.star) = nothing_decodable
segment_decodable (G.dotted d (G.shorthand x cs)) = spells_decodable (short_spells x cs)
segment_decodable (G.bracketed d v Inner.star w) = nothing_decodable
segment_decodable (G.bracketed d v (G.quoted q cs) w) = spells_decodable (quoted_spells cs)
segment_decodable (G.bracketed d v (G.position p small) w) = nothing_decodable

never : {X : Type 0} → false ≡ true → X
never h = absurd (false≢true h)

module _ (q : List ℕ) (f : Found) where
  -- `*`

  pub every_found : {names : List ℕ} → f.taking ≡ Every → Decodes q f names names 0
  unfolding decoded_step decoded
  every_found e = record {
    stays = λ t i j h. refl;
    compiles = λ t. rw e (record {
      deep = refl;
      every = refl;
      named = refl;
      positioned = refl;
      order = never;
      within = never;
      name = never;
      position = never;
    });
  }

  -- a position

  pub position_found : {names : List ℕ} {j : ℕ} → f.taking ≡ Position j → Decodes q f names names j
  unfolding decoded_step decoded
  position_found e = record {
    stays = λ t i j h. refl;
    compiles = λ t. rw e (record {
      deep = refl;
      every = refl;
      named = refl;
      positioned = refl;
      order = never;
      within = never;
      name = never;
      position = λ h. refl;
    });
  }

  -- a name
  module _ {a b : ℕ} (e : f.taking ≡ Name a b) where
    pub name_stands : Stands q f.taking → Stands q (Name a b)
    name_stands s = subst (Stands q) e s

    module _ {n m : ℕ} (t : StepTaken q n f m) where
      name_bounds : (n ≤ a) × (a ≤ b) × (b ≤ m)
      name_bounds = subst (Bounded n m) e t.bounded

      name_decodable : Decodable (slice a b q)
      name_decodable =
          subst Decodable (ap (λ (s : Step). name_bytes s.selector) (sym t.step) ∙ ap (λ (x : Taking). name_bytes (selector_at q x)) e)
          (segment_decodable t.spaced.segment)

    module _ {before after : List ℕ} {r : ℕ} (w : Written before a (unescaped (slice a b q)) after r) (l : r ≤ b) (h : b ≤ names_size)
        (s : length before ≡ names_size) where
      start_within : a ≤ length before
      start_within = omega (arith, w.end)

      start_back : name_start_of (a * 65536 + r) ≡ a
      start_back = omega arith

      end_back : name_end_of (a * 65536 + r) ≡ r
      end_back = omega arith

      pub name_found : Decodes q f before after (a * 65536 + r)
      unfolding decoded_step decoded
      name_found = record {
        stays = λ t i j k. written_below w start_within i j (omega (arith, name_bounds t));
        compiles = λ t. rw e (record {
          deep = refl;
          every = refl;
          named = refl;
          positioned = refl;
          order = λ y. rw (start_back, end_back) (omega (arith, w.end));
          within = λ y. rw end_back (omega (arith, name_bounds t));
          name = λ y. rw (start_back, end_back, written_here w start_within) (name_decodable t);
          position = never;
        });
      }

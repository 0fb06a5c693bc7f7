-- From what is admitted beside the shortest record to what is told of the pile: that record is taken, so that the query alone decides.
-- Assumes nothing.
use Rattle.std.specs.Prelude.{Option, Some, None, Ok, Err, unwrap_or}
use Rattle.std.specs.Option.{is_some}
use mathlib.Core.Path.{◌≡◌, refl, sym, ap, ◌∙◌}
use mathlib.Core.List.{List, [], ◌∷◌}
use mathlib.Core.Bool.{Bool, false}
use Prim.Native.Nat.{ℕ, zero, suc}
use native.Mathlib.Omega.{arith}
use Rattle.encoding.specs.Verdict.{Verdict, taken}
use Rattle.encoding.specs.Refusals.{number_of, refused}
use Rattle.encoding.specs.declared.refusals.Refusal.{Refusal}
use Rattle.json_text.specs.Verdict.{record_verdict}
use Rattle.query.specs.Steps.{Step}
use Rattle.query.specs.Verdict.{query_verdict, steps_in}
use Rattle.query_parser.specs.declared.compiled.Compiled.{Compiled}
use Rattle.select.specs.PileBoundOf.{pile_bound}
use Rattle.answers.specs.Bound.{max_frames, is_bound, at_most, bounded_if, frames_if, bounded, frames_bound, BoundsPile}
use Rattle.answers.specs.Lister.{or_else, input_verdict}
use Rattle.answers.proofs.ListerIs.{refuses_first}
use Rattle.answers.specs.WithinLaws.{taken_query, query_is_taken}
use Rattle.lister.specs.Answers.{Admits}
use Rattle.encoding.specs.RefusalLaws.{some_ground}
use Rattle.bound.specs.Told.{DeepSteps, told}

-- what is told, as a test and as a number
pub told_bounded : (o : Option ℕ) → is_some o ≡ is_bound (told o)
unfolding is_bound
told_bounded (Some k) = refl
told_bounded None = refl

pub told_frames : (o : Option ℕ) → unwrap_or o max_frames ≡ at_most (told o)
unfolding at_most
told_frames (Some k) = refl
told_frames None = refl

abbrev shortest : List ℕ
shortest = 0x30 ∷ []

shortest_taken : record_verdict shortest ≡ taken
unfolding record_verdict
shortest_taken = refl

only_query : (q : List ℕ) → input_verdict q shortest ≡ query_verdict q
unfolding input_verdict or_else
only_query q = ap (or_else (query_verdict q)) shortest_taken ∙ go (query_verdict q).ground refl
  where
    go : (g : ℕ) → (query_verdict q).ground ≡ g → or_else (query_verdict q) taken ≡ query_verdict q
    go zero e = let t = query_is_taken (taken_query q e).1 in ap (λ (v : Verdict). or_else v taken) t ∙ sym t
    go (suc g) e = refuses_first (query_verdict q) taken (omega arith)

module _ (q names : List ℕ) where
  pub query_refused : {e : Refusal} → Admits q shortest names (Err e) → {g : ℕ} → g ≡ number_of e.ground → BoundsPile q g e.place false 0
  unfolding bounded frames_bound bounded_if frames_if
  query_refused {e} h {g} f = go (query_verdict q).ground refl
    where
      v : refused e ≡ query_verdict q
      v = h.verdict ∙ only_query q

      go : (n : ℕ) → (query_verdict q).ground ≡ n → BoundsPile q g e.place false 0
      go zero z = absurd (some_ground e.ground (ap (λ (v : Verdict). v.ground) v ∙ z))
      go (suc n) z = record {
        ground_is = f ∙ ap (λ (v : Verdict). v.ground) v;
        place_is = ap (λ (v : Verdict). v.place) v;
        bounded_is = sym (ap (λ (n : ℕ). bounded_if n (pile_bound (steps_in q))) z);
        frames_are = sym (ap (λ (n : ℕ). frames_if n (pile_bound (steps_in q))) z);
      }

  module _ {c : Compiled} (h : Admits q shortest names (Ok c)) where
    v : taken ≡ query_verdict q
    v = h.verdict ∙ only_query q

    deep_steps : DeepSteps (steps_in q) c.kinds.count c.kinds.deep
    deep_steps = record { number = h.steps_are.count; deep = h.steps_are.deep }

    pub query_taken : (o : Option ℕ) → ((x : List Step) → DeepSteps x c.kinds.count c.kinds.deep → told o ≡ pile_bound x) → {b : Bool} {k : ℕ} →
        b ≡ is_some o → k ≡ unwrap_or o max_frames → BoundsPile q 0 0 b k
    unfolding bounded frames_bound bounded_if frames_if
    query_taken o f d e = let g = f (steps_in q) deep_steps in record {
      ground_is = ap (λ (v : Verdict). v.ground) v;
      place_is = ap (λ (v : Verdict). v.place) v;
      bounded_is = d ∙ told_bounded o ∙ ap is_bound g ∙ ap (λ (v : Verdict). bounded_if v.ground (pile_bound (steps_in q))) v;
      frames_are = e ∙ told_frames o ∙ ap at_most g ∙ ap (λ (v : Verdict). frames_if v.ground (pile_bound (steps_in q))) v;
    }

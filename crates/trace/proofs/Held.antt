-- Links that are put one behind the other, as many as there are slots at most, are held in this order. Assumes nothing.
use Rattle.std.proofs.Common.{◌≡◌, refl, ap, ◌∙◌, List, [], ◌∷◌, ◌++◌, ℕ, ◌≤◌, ◌<◌, length, length-append, arith}
use Rattle.std.specs.Prelude.{Option, Some, None}
use mathlib.Core.List.{append-nil}
use Rattle.std.proofs.Math.Option.{some}
use Rattle.json_text.specs.Verdict.{max_depth}
use Rattle.paths.specs.Trails.{Link, Trail}
use Rattle.seek.specs.declared.keeper.KeptLink.{KeptLink}
use Rattle.seek.specs.Keeps.{Slot, KeepsAll, nothing, one_more, KeepsFrom}
use Rattle.seek.specs.Seeks.{FindsFrom}
use Rattle.trace.specs.Slots.{Puts, HoldsTrail, none, more}
use Rattle.trace.specs.Traces.{TracesFrom}

module _ {s : List ℕ} where
  held-length : {slots : List KeptLink} {u : Trail} → HoldsTrail s slots u → length slots ≡ length u
  held-length none = refl
  held-length (more x h) = omega (arith, held-length h)

  held_last : {slots : List KeptLink} {u : Trail} {kept : KeptLink} {l : Link} → HoldsTrail s slots u → Slot s kept l
      → HoldsTrail s (slots ++ (kept ∷ [])) (u ++ (l ∷ []))
  held_last none x = more x none
  held_last (more y h) x = more y (held_last h x)

-- a keeper that puts a link behind the others, if there is a slot for it
module _ {keeps : List KeptLink → KeptLink → List KeptLink → Type 0}
    (puts : (before : List KeptLink) (kept : KeptLink) (after : List KeptLink) → keeps before kept after
    → length before < max_depth → after ≡ before ++ (kept ∷ [])) where
  held_all : {s : List ℕ} {before after : List KeptLink} {u : Trail} → before ≡ [] → KeepsAll keeps s before u after → length u ≤ max_depth
      → HoldsTrail s after u
  held_all e nothing h = rw e none
  held_all e (one_more {u = u} {l = l} r slot kept) h =
      let held = held_all e r (omega (arith, length-append u (l ∷ []))) in
      rw (puts _ _ _ kept (omega (arith, held-length held, length-append u (l ∷ [])))) (held_last held slot)

  -- from no link on
  pub traces_by : (s : List ℕ) (o : ℕ) (before after : List KeptLink) (end : Option ℕ) → before ≡ [] → FindsFrom s o end
      → KeepsFrom keeps s o before after end → TracesFrom s o after end
  traces_by s o before after None e f k = record { finds = f; trail_is = tt }
  traces_by s o before after (Some i) e f k =
      record {
        finds = f;
        trail_is = λ t p q.
            (let found = k t p q in
            (found.links, found.found_is ∙ ap some (append-nil found.links), held_all e found.kept found.few));
      }

-- the same of a keeper that leaves full slots as they are besides
pub traces_from : (s : List ℕ) (o : ℕ) (before after : List KeptLink) (end : Option ℕ) → before ≡ [] → FindsFrom s o end
    → KeepsFrom Puts s o before after end → TracesFrom s o after end
traces_from = traces_by (λ before kept after put. put.0)

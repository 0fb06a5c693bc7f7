-- The verdict by computing is the one that the grounds say, and no other; the steps by computing are the tree's. Assumes nothing.
use Rattle.std.specs.Prelude.{◌≡◌, refl, List, [], ◌∷◌, ◌++◌, map, Bool, true, false, ◌↔◌, ◌⊎◌, ℕ, zero, suc, ◌+◌, ◌≤◌, ◌<◌, leb, length}
use Rattle.std.proofs.Common.{ap, ap₂, sym, subst, ◌∙◌, true≢false, inl, inr, le_of_suc-le-suc, arith, length-append, leb-true, leb-false, le-leb}
use Rattle.std.proofs.lemmas.Bool.{lt-leb}
use Rattle.encoding.specs.BytesLaws.{size}
use Rattle.encoding.specs.Prefix.{DeadPlace}
use Rattle.encoding.specs.PrefixLaws.{alive_text, dead_place_unique}
use Rattle.encoding.specs.Verdict
use Rattle.encoding.specs.Verdict.{Verdict, refused}
use Rattle.query.specs.Grammar.{Spaced, Query, QueryText, put_spaced, put_query, text, steps_of}
use Rattle.query.specs.Steps.{Step}
use Rattle.query.specs.Machine.{root, place, start}
use Rattle.query.specs.Read.{Placed, named, Reading, good, reading, steps_read}
use Rattle.query.specs.Append.{append-spaced}
use Rattle.query.proofs.Text.{placed, reads_text}
use Rattle.query.specs.NamesLaws.{written_decoded}
use Rattle.query.proofs.Sound.{sound}
use Rattle.query.proofs.Place.{Tells, well, ill, tells, accepts_text, dead_place}
use Rattle.query.specs.Verdict.{max_query_bytes, max_steps, decoded_step, steps_in, place_of, counted, judged, overlong, query_verdict}
use Rattle.query.specs.Verdict.{QuerySays, taken, long, wrong, many}

-- the steps

steps_placed : (t : Query) (n : ℕ) → map (λ (x : Placed). decoded_step x.step) (placed n t) ≡ steps_of t
unfolding placed steps_of
steps_placed [] n = refl
steps_placed (x ∷ t) n = ap₂ (λ (y : Step) (l : List Step). y ∷ l) (written_decoded x.segment) (steps_placed t (n + length (put_spaced x [])))

-- the steps of a query's text are those of its tree
pub steps_in_text : (t : Query) → steps_in (text t) ≡ steps_of t
unfolding steps_in
steps_in_text t = ap (λ (r : Reading). map (λ (x : Placed). decoded_step x.step) (steps_read r)) (reads_text t) ∙ steps_placed t 1

-- two trees of one text have the same steps
pub unambiguous : (t u : Query) → text t ≡ text u → steps_of t ≡ steps_of u
unambiguous t u e = sym (steps_in_text t) ∙ ap steps_in e ∙ steps_in_text u

length-placed : (t : Query) (n : ℕ) → length (placed n t) ≡ length t
unfolding placed
length-placed [] n = refl
length-placed (x ∷ t) n = ap suc (length-placed t (n + length (put_spaced x [])))

-- the place of a step is the length of what stands before it
place_split : (t : Query) (x : Spaced) (u : Query) (n : ℕ) →
    place_of (length t) (placed n (t ++ x ∷ u)) ≡ n + length (put_query t []) + length x.before
unfolding placed put_query
place_split [] x u n = omega arith
place_split (y ∷ t) x u n =
    place_split t x u (n + length (put_spaced y [])) ∙ omega (arith, size (put_spaced y) (append-spaced y) (put_query t []))

data Split (k : ℕ) : Query → Type 0 where
  split : (t : Query) (x : Spaced) (u : Query) → length t ≡ k → Split k (t ++ x ∷ u)

split_at : (t : Query) (k : ℕ) → k < length t → Split k t
split_at [] k h = absurd (omega arith)
split_at (x ∷ t) zero h = split [] x t refl
split_at (x ∷ t) (suc k) h = go t (split_at t k (le_of_suc-le-suc h))
  where
    go : (t : Query) → Split k t → Split (suc k) (x ∷ t)
    go t' (split t₀ y u e) = split (x ∷ t₀) y u (ap suc e)

-- the verdict

many_at : (t : Query) (x : Spaced) (u : Query) → length t ≡ max_steps →
    place_of max_steps (placed 1 (t ++ x ∷ u)) ≡ length (text t) + length x.before
unfolding text
many_at t x u e = ap (λ (k : ℕ). place_of k (placed 1 (t ++ x ∷ u))) (sym e) ∙ place_split t x u 1 ∙ omega arith

says_counted : (s : List ℕ) (t : Query) → length s ≤ max_query_bytes → text t ≡ s → QuerySays s (counted (placed 1 t))
unfolding counted
says_counted s t l e = go (leb (length (placed 1 t)) max_steps) refl
  where
    more : (t : Query) → text t ≡ s → Split max_steps t → QuerySays s (refused 3 (place_of max_steps (placed 1 t)))
    more t' e (split t₀ x u f) = subst (λ (p : ℕ). QuerySays s (refused 3 p)) (sym (many_at t₀ x u f)) (many l t₀ x u e f)

    go : (b : Bool) → leb (length (placed 1 t)) max_steps ≡ b → QuerySays s
        (elim b [ true ↦ Verdict.taken | false ↦ refused 3 (place_of max_steps (placed 1 t)) ])
    go true f = taken l t e (omega (arith, leb-true (length (placed 1 t)) max_steps f, length-placed t 1))
    go false f = more t e (split_at t max_steps (omega (arith, leb-false (length (placed 1 t)) max_steps f, length-placed t 1)))

says_judged : (s : List ℕ) (r : Reading) → length s ≤ max_query_bytes → reading root 0 s ≡ r → Tells root 0 s r → QuerySays s (judged r)
unfolding judged
says_judged s r l e (well a f) =
    let x = sound s f in
    let z : good (named [] (placed 1 x.tree)) ≡ good a = sym (reads_text x.tree) ∙ ap (reading root 0) x.written ∙ e in
    let y : placed 1 x.tree ≡ a.later = ap steps_read z in
    subst (λ (k : List Placed). QuerySays s (counted k)) y (says_counted s x.tree l x.written)
says_judged s r l e (ill p f g) =
    wrong (λ x. true≢false (sym (accepts_text s x) ∙ f)) p (subst (DeadPlace QueryText s) (sym (g ∙ omega arith)) (dead_place s)) (inl l)

-- a text of the grammar has no dead byte
dead_wrong : (s : List ℕ) (p : ℕ) → DeadPlace QueryText s p → p < length s → QueryText s → ⊥
dead_wrong s p d h x = d.dead h (alive_text QueryText s (suc p) x)

says_overlong : (s : List ℕ) → max_query_bytes < length s → QuerySays s (overlong (place start s))
unfolding overlong
says_overlong s h = go (place start s) (dead_place s) (leb max_query_bytes (place start s)) refl
  where
    go : (p : ℕ) → DeadPlace QueryText s p → (b : Bool) → leb max_query_bytes p ≡ b →
        QuerySays s (elim b [ true ↦ refused 1 max_query_bytes | false ↦ refused 2 p ])
    go p d true f = long h p d (leb-true max_query_bytes p f)
    go p d false f = let l = leb-false max_query_bytes p f in wrong (dead_wrong s p d (omega arith)) p d (inr l)

-- a query's verdict by computing is what the grounds say
pub query_says : (s : List ℕ) → QuerySays s (query_verdict s)
unfolding query_verdict
query_says s = go (leb (length s) max_query_bytes) refl
  where
    go : (b : Bool) → leb (length s) max_query_bytes ≡ b → QuerySays s (elim b [ true ↦ judged (reading root 0 s) | false ↦ overlong (place start s) ])
    go true f = says_judged s (reading root 0 s) (leb-true (length s) max_query_bytes f) refl (tells root 0 s)
    go false f = says_overlong s (leb-false (length s) max_query_bytes f)

-- the verdict of a query that is not too long
pub short_enough : (s : List ℕ) → length s ≤ max_query_bytes → query_verdict s ≡ judged (reading root 0 s)
unfolding query_verdict
short_enough s l = rw (le-leb (length s) max_query_bytes l, query_verdict)

-- of one that is too long, by the place of its dead byte

pub too_long : (s : List ℕ) → max_query_bytes < length s → query_verdict s ≡ overlong (place start s)
unfolding query_verdict
too_long s h = rw (lt-leb (length s) max_query_bytes h, query_verdict)

pub early : (p : ℕ) → p < max_query_bytes → overlong p ≡ refused 2 p
unfolding overlong
early p h = rw (lt-leb max_query_bytes p h, overlong)

pub late : (p : ℕ) → max_query_bytes ≤ p → overlong p ≡ refused 1 max_query_bytes
unfolding overlong
late p h = rw (le-leb max_query_bytes p h, overlong)

verdict_text : (s : List ℕ) (t : Query) → length s ≤ max_query_bytes → text t ≡ s → query_verdict s ≡ counted (placed 1 t)
unfolding judged
verdict_text s t l e = short_enough s l ∙ ap (λ (u : List ℕ). judged (reading root 0 u)) (sym e) ∙ ap judged (reads_text t)

pub few : (l : List Placed) → length l ≤ max_steps → counted l ≡ Verdict.taken
unfolding counted
few l h = rw (le-leb (length l) max_steps h, counted)

pub too_many : (l : List Placed) → max_steps < length l → counted l ≡ refused 3 (place_of max_steps l)
unfolding counted
too_many l h = rw (lt-leb (length l) max_steps h, counted)

wrong_only : (s : List ℕ) (p : ℕ) (r : Reading) → (QueryText s → ⊥) → DeadPlace QueryText s p → Tells root 0 s r → refused 2 p ≡ judged r
unfolding judged
wrong_only s p r f d (well a e) = absurd (f (sound s e))
wrong_only s p r f d (ill q e g) = ap (refused 2) (dead_place_unique QueryText s d (dead_place s) ∙ sym (g ∙ omega arith))

overlong_only : (s : List ℕ) (p : ℕ) → max_query_bytes < length s → DeadPlace QueryText s p → overlong p ≡ query_verdict s
overlong_only s p h d = ap overlong (dead_place_unique QueryText s d (dead_place s)) ∙ sym (too_long s h)

-- what the grounds say of a query is its verdict by computing
pub query_says_only : (s : List ℕ) (v : Verdict) → QuerySays s v → v ≡ query_verdict s
query_says_only s v (taken l t e h) = sym (verdict_text s t l e ∙ few (placed 1 t) (omega (arith, length-placed t 1)))
query_says_only s v (long h p d l) = sym (late p l) ∙ overlong_only s p h d
query_says_only s v (wrong f p d l) = go l (leb (length s) max_query_bytes) refl
  where
    go : (length s ≤ max_query_bytes) ⊎ (p < max_query_bytes) → (b : Bool) → leb (length s) max_query_bytes ≡ b → refused 2 p ≡ query_verdict s
    go l true e = wrong_only s p (reading root 0 s) f d (tells root 0 s) ∙ sym (short_enough s (leb-true (length s) max_query_bytes e))
    go (inl l) false e = absurd (omega (arith, leb-false (length s) max_query_bytes e))
    go (inr l) false e = sym (early p l) ∙ overlong_only s p (leb-false (length s) max_query_bytes e) d
query_says_only s v (many l t x u e h) =
    sym
    (verdict_text s (t ++ x ∷ u) l e ∙ too_many (placed 1 (t ++ x ∷ u)) (omega (arith, length-placed (t ++ x ∷ u) 1, length-append t (x ∷ u))) ∙
    ap (refused 3) (many_at t x u h))

-- a query is taken exactly if it is in the grammar, has at most 1,024 bytes and at most 16 steps
pub query_taken : (s : List ℕ) → (query_verdict s ≡ Verdict.taken) ↔
    ((length s ≤ max_query_bytes) × (t : Query) × (text t ≡ s) × (length t ≤ max_steps))
query_taken s = ((λ e. go (query_verdict s) (query_says s) e), (λ x. sym (query_says_only s Verdict.taken (taken x.0 x.1 x.2 x.3))))
  where
    go : (v : Verdict) → QuerySays s v → v ≡ Verdict.taken → (length s ≤ max_query_bytes) × (t : Query) × (text t ≡ s) × (length t ≤ max_steps)
    go v (taken l t e h) f = (l, t, e, h)
    go v (long h p d l) f = absurd (omega (arith, ap (λ (x : Verdict). x.ground) f))
    go v (wrong g p d l) f = absurd (omega (arith, ap (λ (x : Verdict). x.ground) f))
    go v (many l t x u e h) f = absurd (omega (arith, ap (λ (x : Verdict). x.ground) f))

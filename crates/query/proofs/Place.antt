-- The machine's place is the dead byte's: it accepts every query's text, and every state but `dead` can be completed. Assumes nothing.
use Rattle.std.specs.Prelude.{◌≡◌, refl, List, [], ◌∷◌, ◌++◌, Bool, true, false, ℕ, zero, suc, ◌≤◌, ◌<◌, ◌+◌, T, length, take}
use Rattle.std.proofs.Common.{ap, sym, subst, ◌∙◌, le_of_suc-le-suc, arith}
use Rattle.encoding.specs.Prefix.{Alive, DeadPlace}
use Rattle.encoding.specs.PrefixLaws.{alive_text, dead_place_unique, dead_place_at}
use Rattle.encoding.specs.Utf8.{any_tail, after_e0, after_ed, after_f0, after_f4}
use Rattle.query.specs.Grammar as G
use Rattle.query.specs.Grammar.{Quote, Query, QueryText, text}
use Rattle.query.specs.Machine as M
use Rattle.query.specs.Machine.{Home, short, quoted, Due, kind, behind_d_of, digits, high_digits_of, low_backslash, low_u, low_d, low_digit}
use Rattle.query.specs.Machine.{Control, root, done, gap, opened, closing, in_position, inside, in_escape, tail_due}
use Rattle.query.specs.Machine.{digits_due, high_digits_due, tails_due, State, dead, at, step, run, place, final, accept, start}
use Rattle.query.specs.Read.{Event, Ahead, named, Reading, good, bad, note, event, reading}
use Rattle.query.proofs.Text.{reads_text}
use Rattle.query.proofs.Sound.{sound}

abbrev pub Accepts : State → List ℕ → Type 0
Accepts st s = accept (run st s) ≡ true

run_dead : (s : List ℕ) → run dead s ≡ dead
unfolding run
run_dead [] = refl
run_dead (b ∷ s) = run_dead s

-- what a reading says of the machine
pub data Tells (c : Control) (n : ℕ) (s : List ℕ) : Reading → Type 0 where
  well : (a : Ahead) → accept (run (at c) s) ≡ true → Tells c n s (good a)
  ill : (p : ℕ) → accept (run (at c) s) ≡ false → p ≡ n + place (at c) s → Tells c n s (bad p)

tells_note : (e : Event) (m b : ℕ) (c : Control) (n : ℕ) (s : List ℕ) (r : Reading) → Tells c n s r → Tells c n s (note e m b r)
tells_note e m b c n s r (well a x) = well _ x
tells_note e m b c n s r (ill p x y) = ill p x y

tells_step : (c k : Control) (b : ℕ) → step (at c) b ≡ at k → (n : ℕ) (s : List ℕ) (r : Reading) → Tells k (suc n) s r → Tells c n (b ∷ s) r
unfolding run place
tells_step c k b z n s r (well a x) = well a (rw z x)
tells_step c k b z n s r (ill p x y) = ill p (rw z x) (rw (z, place) (omega arith))

pub tells : (c : Control) (n : ℕ) (s : List ℕ) → Tells c n s (reading c n s)
unfolding reading run place
tells c n [] = go (final c) refl
  where
    go : (x : Bool) → final c ≡ x → Tells c n [] (elim x [ true ↦ good (named [] []) | false ↦ bad n ])
    go true e = well _ e
    go false e = ill n e (omega arith)
tells c n (b ∷ s) = go (step (at c) b) refl (λ k. tells k (suc n) s)
  where
    go : (m : State) → step (at c) b ≡ m → ((k : Control) → Tells k (suc n) s (reading k (suc n) s)) →
        Tells c n (b ∷ s) (elim m [ dead ↦ bad n | at k ↦ note (event c k) n b (reading k (suc n) s) ])
    go dead e again = ill n (rw e (ap accept (run_dead s))) (rw (e, place) (omega arith))
    go (at k) e again = tells_step c k b e n s _ (tells_note (event c k) n b k (suc n) s _ (again k))

-- every query's text is accepted
of_good : (c : Control) (n : ℕ) (s : List ℕ) (r : Reading) (a : Ahead) → Tells c n s r → r ≡ good a → Accepts (at c) s
of_good c n s r a (well x e) q = e
of_good c n s r a (ill p e f) q = let z : ◌≡◌ {A = ℕ} 0 1 = cc in absurd (omega arith)

pub complete : (t : Query) → Accepts start (text t)
complete t = of_good root 0 (text t) _ _ (tells root 0 (text t)) (reads_text t)

-- every state but `dead` has bytes that complete it
complete_name : (h : Home) → (w : List ℕ) × Accepts (at (inside h)) w
unfolding run
complete_name short = ([], refl)
complete_name (quoted G.single) = (0x27 ∷ 0x5D ∷ [], refl)
complete_name (quoted G.double) = (0x22 ∷ 0x5D ∷ [], refl)

complete_digits : (n : ℕ) (q : Quote) → (w : List ℕ) × Accepts (at (digits_due n q)) w
unfolding run
complete_digits zero q = complete_name (quoted q)
complete_digits (suc n) q = let r = complete_digits n q in (0x30 ∷ r.0, r.1)

complete_low : (q : Quote) → (w : List ℕ) × Accepts (at (in_escape low_digit q)) w
unfolding run
complete_low q = let r = complete_digits 2 q in (0x43 ∷ r.0, r.1)

complete_high : (n : ℕ) (q : Quote) → (w : List ℕ) × Accepts (at (high_digits_due n q)) w
unfolding run
complete_high zero q = let r = complete_low q in (0x5C ∷ 0x75 ∷ 0x44 ∷ r.0, r.1)
complete_high (suc n) q = let r = complete_high n q in (0x30 ∷ r.0, r.1)

complete_escape : (d : Due) (q : Quote) → (w : List ℕ) × Accepts (at (in_escape d q)) w
unfolding run
complete_escape kind q = let r = complete_name (quoted q) in (0x62 ∷ r.0, r.1)
complete_escape M.first q = let r = complete_digits 3 q in (0x30 ∷ r.0, r.1)
complete_escape behind_d_of q = let r = complete_digits 2 q in (0x30 ∷ r.0, r.1)
complete_escape (digits n) q = complete_digits (suc n) q
complete_escape (high_digits_of n) q = complete_high (suc n) q
complete_escape low_backslash q = complete_high 0 q
complete_escape low_u q = let r = complete_low q in (0x75 ∷ 0x44 ∷ r.0, r.1)
complete_escape low_d q = let r = complete_low q in (0x44 ∷ r.0, r.1)
complete_escape low_digit q = complete_low q

complete_tails : (n : ℕ) (h : Home) → (w : List ℕ) × Accepts (at (tails_due n h)) w
unfolding run
complete_tails zero h = complete_name h
complete_tails (suc n) h = let r = complete_tails n h in (0x80 ∷ r.0, r.1)

pub viable : (c : Control) → (w : List ℕ) × Accepts (at c) w
unfolding run
viable root = (0x24 ∷ [], refl)
viable done = ([], refl)
viable gap = (0x2E ∷ 0x2A ∷ [], refl)
viable (M.dotted d) = (0x2A ∷ [], refl)
viable opened = (0x2A ∷ 0x5D ∷ [], refl)
viable closing = (0x5D ∷ [], refl)
viable (in_position v) = (0x5D ∷ [], refl)
viable (inside h) = complete_name h
viable (in_escape d q) = complete_escape d q
viable (tail_due any_tail n h) = let r = complete_tails n h in (0x80 ∷ r.0, r.1)
viable (tail_due after_e0 n h) = let r = complete_tails n h in (0xA0 ∷ r.0, r.1)
viable (tail_due after_ed n h) = let r = complete_tails n h in (0x80 ∷ r.0, r.1)
viable (tail_due after_f0 n h) = let r = complete_tails n h in (0x90 ∷ r.0, r.1)
viable (tail_due after_f4 n h) = let r = complete_tails n h in (0x80 ∷ r.0, r.1)

-- alive is not dead

run-append : (st : State) (p u : List ℕ) → run st (p ++ u) ≡ run (run st p) u
unfolding run
run-append st [] u = refl
run-append st (b ∷ p) u = run-append (step st b) p u

pub accepts_text : (s : List ℕ) → QueryText s → Accepts start s
accepts_text s x = rw x.written at (complete x.tree)

alive : (p : List ℕ) (c : Control) → run start p ≡ at c → Alive QueryText p
unfolding Alive
alive p c e = let w = viable c in (w.0, sound (p ++ w.0) (rw (run-append, e) w.1))

not_alive : (p : List ℕ) → run start p ≡ dead → Alive QueryText p → ⊥
unfolding Alive
not_alive p e (u, x) = subst T (sym (rw (run-append, e, run_dead) at (accepts_text (p ++ u) x))) tt

-- the machine lives on each byte before its place, and on none from there

place_lives : (c : Control) (s : List ℕ) (i : ℕ) → i ≤ place (at c) s → (k : Control) × (run (at c) (take i s) ≡ at k)
unfolding run place
place_lives c s zero h = (c, refl)
place_lives c [] (suc i) h = absurd (omega arith)
place_lives c (b ∷ s) (suc i) h = go (step (at c) b) refl h (λ k g. place_lives k s i g)
  where
    go : (m : State) → step (at c) b ≡ m → suc i ≤ elim m [ dead ↦ 0 | at k ↦ suc (place (at k) s) ] →
        ((k : Control) → i ≤ place (at k) s → (k' : Control) × (run (at k) (take i s) ≡ at k')) → (k' : Control) ×
        (run (at c) (take (suc i) (b ∷ s)) ≡ at k')
    go dead e g again = absurd (omega arith)
    go (at k) e g again = let r = again k (le_of_suc-le-suc g) in (r.0, ap (λ (x : State). run x (take i s)) e ∙ r.1)

place_dies : (c : Control) (s : List ℕ) → place (at c) s < length s → run (at c) (take (suc (place (at c) s)) s) ≡ dead
unfolding run place
place_dies c [] h = absurd (omega arith)
place_dies c (b ∷ s) h = go (step (at c) b) refl h (λ k g. place_dies k s g)
  where
    go : (m : State) → step (at c) b ≡ m → elim m [ dead ↦ 0 | at k ↦ suc (place (at k) s) ] < suc (length s) →
        ((k : Control) → place (at k) s < length s → run (at k) (take (suc (place (at k) s)) s) ≡ dead) →
        run (at c) (take (suc (elim m [ dead ↦ 0 | at k ↦ suc (place (at k) s) ])) (b ∷ s)) ≡ dead
    go dead e g again = rw e refl
    go (at k) e g again = ap (λ (x : State). run x (take (suc (place (at k) s)) s)) e ∙ again k (le_of_suc-le-suc g)

pub place_le : (c : Control) (s : List ℕ) → place (at c) s ≤ length s
unfolding place
place_le c [] = omega arith
place_le c (b ∷ s) = go (step (at c) b) (λ k. place_le k s)
  where
    go : (m : State) → ((k : Control) → place (at k) s ≤ length s) → elim m [ dead ↦ 0 | at k ↦ suc (place (at k) s) ] ≤ suc (length s)
    go dead again = omega arith
    go (at k) again = omega (arith, again k)

-- the place of the dead byte (document 01, "Grounds for refusing"), for every byte string
pub dead_place : (s : List ℕ) → DeadPlace QueryText s (place start s)
dead_place s = record {
  within = place_le root s;
  before = λ i h. let r = place_lives root s (suc i) h in alive (take (suc i) s) r.0 r.1;
  dead = λ h x. not_alive (take (suc (place start s)) s) (place_dies root s h) x;
}

-- the same place by a reading: that where the bytes leave the grammar, or the length of a text that stays in it

pub place_bad : (s : List ℕ) {p : ℕ} → reading root 0 s ≡ bad p → place start s ≡ p
place_bad s {p} e = go (reading root 0 s) (tells root 0 s) e
  where
    go : (r : Reading) → Tells root 0 s r → r ≡ bad p → place start s ≡ p
    go r (well a f) e = let z : ◌≡◌ {A = ℕ} 0 1 = cc in absurd (omega arith)
    go r (ill q f g) e = let z : q ≡ p = cc in omega (arith, g)

pub place_good : (s : List ℕ) {a : Ahead} → reading root 0 s ≡ good a → place start s ≡ length s
place_good s {a} e =
    let x = sound s (of_good root 0 s (reading root 0 s) a (tells root 0 s) e) in
    dead_place_unique QueryText s (dead_place s)
    (dead_place_at QueryText s (length s) (omega arith) (alive_text QueryText s (length s) x) (λ h. absurd (omega arith)))

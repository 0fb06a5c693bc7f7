-- Positions: the digits that lead on and where to; the number that they stand for; and the byte behind them, which says the position and
-- leads on as behind any other. Assumes nothing.
use Rattle.std.specs.Prelude.{◌≡◌, refl, List, [], ◌∷◌, ◌++◌, Bool, true, false, ℕ, zero, suc, ◌+◌, ◌-◌, ◌*◌, ◌≤◌, ◌<◌, ltb, eqb, length, get_or, drop}
use Rattle.std.proofs.Common.{ap, sym, ◌∙◌, arith, leb-true, le-leb, ltb-true, ltb-false, eqb-true}
use Rattle.std.proofs.lemmas.Bool.{false≢true, eqb-false}
use Rattle.encoding.specs.Bytes.{In, put_in}
use Rattle.encoding.specs.BytesLaws.{byte_at_lem, inside, make, from_low, to_high}
use Rattle.encoding.specs.Decimal.{read_on}
use Rattle.encoding.specs.DecimalLaws.{read_from}
use Rattle.query.specs.Grammar as G
use Rattle.query.specs.Grammar.{Position, put_position, position_of, max_position}
use Rattle.query.specs.Machine as M
use Rattle.query.specs.Machine.{Control, done, opened, closing, in_position, State, dead, at, Rule, only, blank_rules}
use Rattle.query.specs.Machine.{rule_if, fits, digit_rules, more_digits, pick, step}
use Rattle.query.specs.Read.{Event, keep, position, event, Reading, good, bad, note, reading}
use Rattle.query.specs.MachineLaws.{hit, miss_only, all_parted, passes, trims, Lives, every_pick}
use Rattle.query.specs.Append.{digits_more}
use Rattle.query.proofs.Spell.{turn, stop, kept, moved}
use Rattle.query.proofs.At.{end_at}

-- the test of the maximum

pub fits_within : (n : ℕ) → fits n ≡ true → n ≤ max_position
fits_within n e = let h = leb-true n _ e in omega arith

within_fits : (n : ℕ) → n ≤ max_position → fits n ≡ true
within_fits n h = le-leb n _ (omega arith)

-- the rules of the digits below n, behind those that stand for v

other_digit : (x : Bool) (n : ℕ) (c : Control) (rs : List Rule) (b : ℕ) → (x ≡ true → b ≡ n → ⊥) → pick (rule_if x (only n c) rs) b ≡ pick rs b
unfolding rule_if
other_digit true n c rs b f = miss_only n c rs b (f refl)
other_digit false n c rs b f = refl

this_digit : (x : Bool) (n : ℕ) (c : Control) (rs : List Rule) → x ≡ true → pick (rule_if x (only n c) rs) n ≡ at c
unfolding rule_if
this_digit true n c rs e = hit (only n c) rs n (inside n n n (omega arith) (omega arith))
this_digit false n c rs e = absurd (false≢true e)

this_or_other : (x : Bool) (k d : ℕ) (c : Control) (rs : List Rule) (m : State) → (d ≡ k → (x ≡ true) × (at c ≡ m)) →
    (d < k → pick rs (0x30 + d) ≡ m) → d ≤ k → pick (rule_if x (only (0x30 + k) c) rs) (0x30 + d) ≡ m
this_or_other x k d c rs m f g h = go (eqb d k) refl
  where
    go : (y : Bool) → eqb d k ≡ y → pick (rule_if x (only (0x30 + k) c) rs) (0x30 + d) ≡ m
    go true e =
        let z : d ≡ k = eqb-true d k e in
        rw z (this_digit x (0x30 + k) c rs (f z).0 ∙ (f z).1)
    go false e = other_digit x (0x30 + k) c rs (0x30 + d) (λ y z. eqb-false d k e (omega arith)) ∙ g (omega (arith, eqb-false d k e))

-- a digit with which the number stays within the maximum leads on
digit_picks : (v n d : ℕ) → d < n → v * 10 + d ≤ max_position → pick (digit_rules v n) (0x30 + d) ≡ at (in_position (v * 10 + d))
unfolding digit_rules
digit_picks v zero d h m = absurd (omega arith)
digit_picks v (suc k) d h m =
    this_or_other (fits (v * 10 + k)) k d (in_position (v * 10 + k)) (digit_rules v k) _
    (λ e. (within_fits (v * 10 + k) (omega arith), ap (λ (i : ℕ). at (in_position (v * 10 + i))) (sym e))) (λ l. digit_picks v k d l m) (omega arith)

-- by its byte
digit_byte : (v b w : ℕ) → 0x30 ≤ b → b ≤ 0x39 → v * 10 + (b - 0x30) ≡ w → w ≤ max_position → pick (digit_rules v 10) b ≡ at (in_position w)
digit_byte v b w l h e m =
    let z : 0x30 + (b - 0x30) ≡ b = omega arith in
    ap (pick (digit_rules v 10)) (sym z) ∙ digit_picks v 10 (b - 0x30) (omega arith) (omega arith) ∙ ap (λ (x : ℕ). at (in_position x)) e

-- no other byte is in any of them
pub no_digit : (v n b : ℕ) → ((d : ℕ) → d < n → v * 10 + d ≤ max_position → b ≡ 0x30 + d → ⊥) → pick (digit_rules v n) b ≡ dead
unfolding digit_rules pick
no_digit v zero b f = refl
no_digit v (suc k) b f =
    other_digit (fits (v * 10 + k)) (0x30 + k) (in_position (v * 10 + k)) (digit_rules v k) b
    (λ x y. f k (omega arith) (fits_within (v * 10 + k) x) y) ∙ no_digit v k b (λ d h m y. f d (omega arith) m y)

-- digits that lead on

-- a first digit
first_digit : {b : ℕ} → 0x30 ≤ b → b ≤ 0x39 → step (at opened) b ≡ at (in_position (b - 0x30))
unfolding step all_parted
first_digit {b} l h =
    passes l h (M.blank_rules opened (only 0x2A closing ∷ only 0x27 (M.inside (M.quoted G.single)) ∷ only 0x22 (M.inside (M.quoted G.double)) ∷ []))
    (digit_rules 0 10) tt ∙ digit_byte 0 b (b - 0x30) l h (omega arith) (omega arith)

-- another one, behind those that stand for v
digit_on : (v : ℕ) {b : ℕ} → 0 < v → 0x30 ≤ b → b ≤ 0x39 → v * 10 + (b - 0x30) ≤ max_position →
    step (at (in_position v)) b ≡ at (in_position (v * 10 + (b - 0x30)))
unfolding step all_parted
digit_on zero p l h m = absurd (omega arith)
digit_on (suc v) {b} p l h m = passes l h (blank_rules closing (only 0x5D done ∷ [])) (digit_rules (suc v) 10) tt ∙
    digit_byte (suc v) b (suc v * 10 + (b - 0x30)) l h refl m

-- behind the digits that stand for v, b is none that leads on
abbrev pub NoMore : ℕ → ℕ → Type 0
NoMore v b = 0 < v → 0x30 ≤ b → b ≤ 0x39 → v * 10 + (b - 0x30) ≤ max_position → ⊥

no_more : (v b : ℕ) → NoMore v b → pick (more_digits v) b ≡ dead
unfolding more_digits pick
no_more zero b f = refl
no_more (suc v) b f = no_digit (suc v) 10 b (λ d h m e. f (omega arith) (omega arith) (omega arith) (omega arith))

step_behind : (v b : ℕ) → NoMore v b → step (at (in_position v)) b ≡ step (at closing) b
unfolding step
step_behind v b f = trims (blank_rules closing (only 0x5D done ∷ [])) (more_digits v) b (no_more v b f)

-- what the byte behind them says

note_position : (v n b : ℕ) (r : Reading) → note (position v) n b r ≡ note (position v) 0 0 r
note_position v n b (good a) = refl
note_position v n b (bad p) = refl

-- where a byte leads from behind a position
record Behind (v : ℕ) (k : Control) : Type 0 where
  says : event (in_position v) k ≡ position v
  keeps : event closing k ≡ keep

behind : (v b : ℕ) → Lives (Behind v) (step (at closing) b)
unfolding step
behind v b = every_pick (Behind v) (M.rules closing) b (is, (is, (is, (is, (is', tt)))))
  where
    is : Behind v closing
    is = record { says = refl; keeps = refl }

    is' : Behind v done
    is' = record { says = refl; keeps = refl }

pub reads_behind : (v n b : ℕ) (s : List ℕ) → NoMore v b → reading (in_position v) n (b ∷ s) ≡ note (position v) 0 0 (reading closing n (b ∷ s))
reads_behind v n b s f = go (step (at closing) b) refl (behind v b)
  where
    go : (m : State) → step (at closing) b ≡ m → Lives (Behind v) m → reading (in_position v) n (b ∷ s) ≡ note (position v) 0 0 (reading closing n (b ∷ s))
    go dead e x = stop (in_position v) n b s (step_behind v b f ∙ e) ∙ sym (ap (note (position v) 0 0) (stop closing n b s e))
    go (at k) e x =
        turn (in_position v) k n b s (step_behind v b f ∙ e) ∙ ap (λ (y : Event). note y n b (reading k (suc n) s)) x.says ∙
        note_position v n b (reading k (suc n) s) ∙ sym (ap (note (position v) 0 0) (kept closing k n b s e x.keeps))

-- the digits of a position

reads_digits : (ds : List (In 0x30 0x39)) (v n : ℕ) (u : List ℕ) → 0 < v → read_on v (put_in ds []) ≤ max_position →
    reading (in_position v) n (put_in ds u) ≡ reading (in_position (read_on v (put_in ds []))) (n + length (put_in ds [])) u
unfolding put_in read_on
reads_digits [] v n u p m = moved (in_position v) n (n + 0) u (omega arith)
reads_digits (d ∷ ds) v n u p m =
    let w : ℕ = v * 10 + (d.byte - 0x30) in
    kept (in_position v) (in_position w) n d.byte (put_in ds u) (digit_on v p (from_low d) (to_high d) (omega (arith, read_from w (put_in ds [])))) refl ∙
    reads_digits ds w (suc n) u (omega arith) m ∙
    moved (in_position (read_on w (put_in ds []))) (suc n + length (put_in ds [])) (n + suc (length (put_in ds []))) u (omega arith)

pub reads_position : (p : Position) (n : ℕ) (u : List ℕ) → position_of p ≤ max_position →
    reading opened n (put_position p u) ≡ reading (in_position (position_of p)) (n + length (put_position p [])) u
unfolding position_of read_on
reads_position G.zero n u m =
    kept opened (in_position 0) n 0x30 u (first_digit (omega arith) (omega arith)) refl ∙ moved (in_position 0) (suc n) (n + 1) u (omega arith)
reads_position (G.digits d ds) n u m =
    let v : ℕ = 0 * 10 + (d.byte - 0x30) in
    let e : d.byte - 0x30 ≡ v = omega arith in
    kept opened (in_position v) n d.byte (put_in ds u)
    (first_digit (omega (arith, from_low d)) (to_high d) ∙ ap (λ (x : ℕ). at (in_position x)) e) refl ∙
    reads_digits ds v (suc n) u (omega (arith, from_low d)) m ∙
    moved (in_position (read_on v (put_in ds []))) (suc n + length (put_in ds [])) (n + suc (length (put_in ds []))) u (omega arith)

-- one digit alone, and one more behind those of a position other than 0

pub one_digit : (b : ℕ) → 0x30 ≤ b → b ≤ 0x39 → (p : Position) × ((s : List ℕ) → put_position p s ≡ b ∷ s) × (position_of p ≡ b - 0x30)
unfolding position_of read_on make
one_digit b l h = go (eqb b 0x30) refl
  where
    go : (x : Bool) → eqb b 0x30 ≡ x → (p : Position) × ((s : List ℕ) → put_position p s ≡ b ∷ s) × (position_of p ≡ b - 0x30)
    go true e = let z : b ≡ 0x30 = eqb-true b 0x30 e in (G.zero, (λ s. ap (λ (x : ℕ). x ∷ s) (sym z)), omega arith)
    go false e = (G.digits (make b (omega (arith, eqb-false b 0x30 e)) h) [], (λ s. refl), omega arith)

read_more : (ds : List (In 0x30 0x39)) (v : ℕ) (x : In 0x30 0x39) → read_on v (put_in (ds ++ x ∷ []) []) ≡ read_on v (put_in ds []) * 10 + (x.byte - 0x30)
unfolding put_in read_on
read_more [] v x = refl
read_more (d ∷ ds) v x = read_more ds (v * 10 + (d.byte - 0x30)) x

pub digit_more : (p : Position) → 0 < position_of p → (b : ℕ) → 0x30 ≤ b → b ≤ 0x39 →
    (p' : Position) × ((s : List ℕ) → put_position p' s ≡ put_position p (b ∷ s)) × (position_of p' ≡ position_of p * 10 + (b - 0x30))
unfolding position_of read_on make
digit_more G.zero g b l h = absurd (omega arith)
digit_more (G.digits d ds) g b l h =
    let x : In 0x30 0x39 = make b l h in
    (G.digits d (ds ++ x ∷ []), (λ s. ap (λ (u : List ℕ). d.byte ∷ u) (digits_more ds x s)), read_more ds (0 * 10 + (d.byte - 0x30)) x)

-- at a place of a query: the byte there is no digit that leads on, or the query ends
pub behind_at : (v : ℕ) (q : List ℕ) (i : ℕ) → (i < length q → NoMore v (get_or q i 0)) →
    reading (in_position v) i (drop i q) ≡ note (position v) 0 0 (reading closing i (drop i q))
behind_at v q i f = go (ltb i (length q)) refl
  where
    go : (x : Bool) → ltb i (length q) ≡ x → reading (in_position v) i (drop i q) ≡ note (position v) 0 0 (reading closing i (drop i q))
    go true e =
        let h : i < length q = ltb-true i (length q) e in
        ap (reading (in_position v) i) (byte_at_lem q i h) ∙ reads_behind v i (get_or q i 0) (drop (i + 1) q) (f h) ∙
        ap (λ (u : List ℕ). note (position v) 0 0 (reading closing i u)) (sym (byte_at_lem q i h))
    go false e =
        let h : length q ≤ i = ltb-false i (length q) e in
        end_at (in_position v) q i h refl ∙ sym (ap (note (position v) 0 0) (end_at closing q i h refl))

-- Laws of the tables of moves. That the whole table leads where the machine goes is computed for every byte and every state.
use Rattle.std.specs.Prelude.{◌≡◌, refl, List, [], ◌∷◌, ◌++◌, Bool, true, false, ◌&&◌, ◌||◌, ℕ, ◌+◌, ◌-◌, ◌*◌, ◌/◌, ◌%◌, ◌^◌, ◌≤◌, ◌<◌, T, leb, ltb, eqb, length, get_or, set, take, map, replicate}
use Rattle.std.proofs.Common.{ap, ap₂, sym, subst, ◌∙◌, arith, leb→le, eqb→eq, length-set, get_or-set_same, get_or-set_other, eqb-true, ne_eqb}
use Rattle.std.proofs.Math.Logic.{∥∥₁_elim}
use Rattle.std.proofs.Math.Nat.{ℕ_set, zero-div}
use Rattle.std.proofs.Math.Option.{some}
use Rattle.std.proofs.Props.{props}
use mathlib.Core.Sum.{⊎_set}
use Rattle.std.specs.Int.Bits.{bit_and, bit_or}
use Rattle.std.specs.List.{flat_map, zip}
use Rattle.std.proofs.lemmas.Nat.{and_le_r}
use Rattle.std.proofs.lemmas.List.{get_or-replicate, get_or-map, take_more, flat_map_more}
use Rattle.std.proofs.lemmas.Slice.Zip.{get_or-zip}
use Rattle.std.proofs.lemmas.Bool.{eqb-false}
use Rattle.std.proofs.lemmas.Bool.Decides.{nat_tests}
use Rattle.bits.specs.Truth.{and_left, and_right, or_elim, all_below, all_at}
use Rattle.encoding.specs.Utf8.{rows}
use Rattle.encoding.specs.declared.tables.Row.{Row}
use Rattle.encoding.specs.Utf8Steps as U
use Rattle.json_text.specs.Room.{Room}
use Rattle.json_text.specs.Machine.{in_string, Stack, top, State, at, rules}
use Rattle.json_text.specs.MachineLaws.{landing, step_range}
use Rattle.json_text.specs.Led.{led_here, led_go, led_on}
use Rattle.moves.specs.Moves.{Stand, between, escape, point, inside, state_of, Goes, Move, move, or_if, joined, with_move, MoveAdded, Added}
use Rattle.moves.specs.Moves.{plain_moves, escape_moves, after_second_of, RowAdded, wide_rows, firsts, wide_moves, point_moves}
use Rattle.moves.specs.Moves.{Followed, went, Leads, Follows, Arrived, came, Characters, Reader, Passes}
use Rattle.moves.specs.Moves as M

-- adding one move, and some after others
pub added_one : {t t' : List ℕ} (m : Move) → MoveAdded m.low m.high (state_of m.from) (state_of m.to) t t' → Added (m ∷ []) t t'
unfolding joined
added_one m a = record { long = a.long; each = a.each }

joined_then : (ms ns : List Move) (b w : ℕ) → joined (ms ++ ns) b w ≡ joined ns b (joined ms b w)
unfolding joined
joined_then [] ns b w = refl
joined_then (m ∷ ms) ns b w = joined_then ms ns b (with_move m.low m.high (state_of m.from) (state_of m.to) b w)

pub added_then : {t t' t'' : List ℕ} {ms ns : List Move} → Added ms t t' → Added ns t' t'' → Added (ms ++ ns) t t''
added_then {t} {t'} {t''} {ms} {ns} x y =
    record { long = y.long; each = λ b h. y.each b h ∙ ap (joined ns b) (x.each b h) ∙ sym (joined_then ms ns b (get_or t b 0)) }

-- the state after the second of so many bytes
pub second_last : {n : ℕ} → (n ≡ 4 → ⊥) → (n ≡ 3 → ⊥) → 57 ≡ state_of (after_second_of n)
second_last {n} f t =
    ap₂ (λ (x y : Bool). state_of (elim x [ true ↦ point U.two | false ↦ elim y [ true ↦ point U.one | false ↦ between ] ]))
    (sym (ne_eqb n 4 f)) (sym (ne_eqb n 3 t))

pub second_same : {n k : ℕ} → n ≡ k → state_of (after_second_of k) ≡ state_of (after_second_of n)
second_same e = ap (λ (k : ℕ). state_of (after_second_of k)) (sym e)

-- the two moves of a row
pub row_added : {r : Row} {state second : ℕ} {t t' t'' : List ℕ} → MoveAdded r.low r.high 57 state t t' → second ≡ state_of (after_second_of r.bytes)
    → MoveAdded r.second_low r.second_high state second t' t'' → RowAdded r state t t''
row_added {r} x q y =
    record {
      long = y.long;
      leads_to_lem = λ p e.
          added_then
          (added_one (move r.low r.high between p) (rw e at x))
          (added_one (move r.second_low r.second_high p (after_second_of r.bytes)) (rw (q, e) at y));
    }

-- the moves of one part after another
pub added_none : {t : List ℕ} → length t ≡ 256 → Added [] t t
unfolding joined
added_none h = record { long = h; each = λ b l. refl }

pub added_more : {t t' t'' : List ℕ} {X : Type 0} (f : X → List Move) (xs : List X) (n : ℕ) (d : X) → n < length xs
    → Added (flat_map f (take n xs)) t t' → Added (f (get_or xs n d)) t' t'' → Added (flat_map f (take (n + 1) xs)) t t''
added_more f xs n d h x y =
    rw (take_more xs n d h, sym (flat_map_more f [] (take n xs) (get_or xs n d))) (added_then x y)

-- the rows after the first, each with the stand to which its first bytes lead
abbrev pub leading_rows : List (Row × Stand)
leading_rows = zip wide_rows firsts

pub rows_more : {n : ℕ} {r : Row} {state : ℕ} {t t' t'' : List ℕ} → n < 8 → ((d : Row) → r ≡ get_or wide_rows n d)
    → ((d : ℕ) → state ≡ get_or (map state_of firsts) n d) → Added (flat_map wide_moves (take n leading_rows)) t t' → RowAdded r state t' t''
    → Added (flat_map wide_moves (take (n + 1) leading_rows)) t t''
unfolding rows
rows_more {n} {r} h er es x y =
    added_more wide_moves leading_rows n (r, between) h x
    (rw (get_or-zip wide_rows firsts n (r, between) h h, sym (er r))
    (y.leads_to_lem (get_or firsts n between) (es 0 ∙ get_or-map state_of firsts n between 0 h)))

-- a move that the machine makes
abbrev TrueMove : Move → Type 0
TrueMove m = (b : ℕ) → m.low ≤ b → b ≤ m.high → Goes m.from b m.to

-- where the rules take its bytes alike
abbrev Lands : Move → Type 0
Lands m = (f : Bool) (k : Stack) (ρ : Room) → landing m.low m.high (rules (inside m.from f) (top k)) k ρ ≡ some (at (inside m.to f) k ρ)

true_move : (m : Move) → Lands m → TrueMove m
true_move m e = λ b l h f k ρ. step_range (inside m.from f) k ρ m.low m.high b (at (inside m.to f) k ρ) (e f k ρ) l h

data AllLand : List Move → Type 0 where
  none : AllLand []
  ◌&◌ : {m : Move} {ms : List Move} → Lands m → AllLand ms → AllLand (m ∷ ms)

infixr 5 ◌&◌
land_then : {ms ns : List Move} → AllLand ms → AllLand ns → AllLand (ms ++ ns)
land_then none y = y
land_then (x & xs) y = x & land_then xs y

plain_land : AllLand plain_moves
unfolding plain_moves rows landing
plain_land = (λ f k ρ. refl) & (λ f k ρ. refl) & (λ f k ρ. refl) & (λ f k ρ. refl) & none

escapes_land : AllLand escape_moves
unfolding escape_moves landing
escapes_land =
    (λ f k ρ. refl) & (λ f k ρ. refl) & (λ f k ρ. refl) & (λ f k ρ. refl) &
    (λ f k ρ. refl) & (λ f k ρ. refl) & (λ f k ρ. refl) & (λ f k ρ. refl) & none

points_land : AllLand point_moves
unfolding point_moves rows landing
points_land =
    (λ f k ρ. refl) & (λ f k ρ. refl) & (λ f k ρ. refl) & (λ f k ρ. refl) &
    (λ f k ρ. refl) & (λ f k ρ. refl) & (λ f k ρ. refl) & (λ f k ρ. refl) &
    (λ f k ρ. refl) & (λ f k ρ. refl) & (λ f k ρ. refl) & (λ f k ρ. refl) &
    (λ f k ρ. refl) & (λ f k ρ. refl) & (λ f k ρ. refl) & (λ f k ρ. refl) & none

unfoldable pub all_moves : List Move
unfolding plain_moves escape_moves point_moves
all_moves = plain_moves ++ (escape_moves ++ point_moves)

all_land : AllLand all_moves
unfolding all_moves
all_land = land_then plain_land (land_then escapes_land points_land)

-- one of the moves leads the byte b from p to the state r
unfoldable leads_to : List Move → (p : Stand) (b r : ℕ) → Bool
leads_to [] p b r = false
leads_to (m ∷ ms) p b r =
    ((leb m.low b && leb b m.high) && (eqb (state_of m.from) (state_of p) && eqb (state_of m.to) r)) || leads_to ms p b r

-- the stands by their states
stands : List Stand
stands = point U.one ∷ point U.two ∷ point U.three ∷ point U.due_e0 ∷ point U.due_ed ∷ point U.due_f0 ∷ point U.due_f4 ∷ escape ∷ between ∷ []

stand_at : ℕ → Stand
stand_at n = get_or stands n between

stand_is : (p : Stand) → stand_at (state_of p / 6 - 1) ≡ p
unfolding stand_at stands
stand_is between = refl
stand_is (point U.one) = refl
stand_is (point U.two) = refl
stand_is (point U.three) = refl
stand_is (point U.due_e0) = refl
stand_is (point U.due_ed) = refl
stand_is (point U.due_f0) = refl
stand_is (point U.due_f4) = refl
stand_is escape = refl

same_stand : (p q : Stand) → state_of p ≡ state_of q → p ≡ q
same_stand p q e = sym (stand_is p) ∙ ap (λ (n : ℕ). stand_at (n / 6 - 1)) e ∙ stand_is q

stand_within : (p : Stand) → state_of p / 6 - 1 < 9
stand_within between = omega arith
stand_within (point U.one) = omega arith
stand_within (point U.two) = omega arith
stand_within (point U.three) = omega arith
stand_within (point U.due_e0) = omega arith
stand_within (point U.due_ed) = omega arith
stand_within (point U.due_f0) = omega arith
stand_within (point U.due_f4) = omega arith
stand_within escape = omega arith

-- and the machine goes there
found : {p : Stand} {b r : ℕ} {ms : List Move} → AllLand ms → T (leads_to ms p b r) → Followed p b r
unfolding leads_to
found none t = absurd t
found {p} {b} {r} (◌&◌ {m} {ms} x xs) t =
    or_elim (covered && states) (leads_to ms p b r) t
    (λ h.
    let c = and_left covered states h in
    let e = and_right covered states h in
    let start : m.from ≡ p = same_stand m.from p (eqb→eq (state_of m.from) (state_of p) (and_left from_here to_there e)) in
    let end : state_of m.to ≡ r = eqb→eq (state_of m.to) r (and_right from_here to_there e) in
    let goes : Goes m.from b m.to =
    true_move m x b (leb→le m.low b (and_left above below c)) (leb→le b m.high (and_right above below c)) in
    subst (λ q. Followed q b r) start (subst (Followed m.from b) end (went m.to goes)))
    (λ h. found xs h)
  where
    above : Bool
    above = leb m.low b

    below : Bool
    below = leb b m.high

    covered : Bool
    covered = above && below

    from_here : Bool
    from_here = eqb (state_of m.from) (state_of p)

    to_there : Bool
    to_there = eqb (state_of m.to) r

    states : Bool
    states = from_here && to_there

-- the state that a word has for a state
abbrev state_in : (w state : ℕ) → ℕ
state_in w state = bit_and (w / 2 ^ state) 63

-- from p the word w of the byte b leads nowhere, or where a move leads
unfoldable follows_from : (w b : ℕ) (p : Stand) → Bool
follows_from w b p = eqb (state_in w (state_of p)) 0 || leads_to all_moves p b (state_in w (state_of p))

-- so it does from every stand, and from nowhere nowhere; the word is given, so that it is computed once for a byte
unfoldable sound_word : (b w : ℕ) → Bool
sound_word b w = eqb (state_in w 0) 0 && all_below 9 (λ n. follows_from w b (stand_at n))

-- the word that the whole table has for a byte
unfoldable word_of : ℕ → ℕ
word_of b = joined all_moves b 0

all_sound : T (all_below 256 (λ b. sound_word b (word_of b)))
unfolding sound_word follows_from word_of joined leads_to all_moves plain_moves escape_moves point_moves rows all_below stand_at stands
all_sound = tt

-- the whole table, and one without moves
nowhere_by : {p : Stand} {b r : ℕ} → r ≡ 0 → Followed p b r
nowhere_by {p} {b} e = subst (Followed p b) (sym e) M.lost

pub leads_all : {t : List ℕ} → Added all_moves (replicate 256 0) t → Leads t
unfolding word_of sound_word follows_from
leads_all {t} a =
    record {
      nowhere = λ b h. ap (λ (w : ℕ). state_in w 0) (word b h) ∙ eqb→eq (state_in (word_of b) 0) 0 (and_left (nothing b) (each b) (is_sound b h));
      somewhere = λ p b h.
          subst (λ (w : ℕ). Followed p b (state_in w (state_of p))) (sym (word b h))
          (or_elim (eqb (state_in (word_of b) (state_of p)) 0) (leads_to all_moves p b (state_in (word_of b) (state_of p))) (follows p b h)
          (λ x. nowhere_by (eqb→eq (state_in (word_of b) (state_of p)) 0 x))
          (λ x. found all_land x));
    }
  where
    word : (b : ℕ) → b < 256 → get_or t b 0 ≡ word_of b
    word b h = a.each b h ∙ ap (joined all_moves b) (get_or-replicate {A = ℕ} 256 b 0 0 h)

    nothing : ℕ → Bool
    nothing b = eqb (state_in (word_of b) 0) 0

    each : ℕ → Bool
    each b = all_below 9 (λ n. follows_from (word_of b) b (stand_at n))

    is_sound : (b : ℕ) → b < 256 → T (sound_word b (word_of b))
    is_sound b h = all_at 256 (λ b. sound_word b (word_of b)) all_sound b h

    follows : (p : Stand) (b : ℕ) → b < 256 → T (follows_from (word_of b) b p)
    follows p b h =
        subst (λ (q : Stand). T (follows_from (word_of b) b q)) (stand_is p)
        (all_at 9 (λ n. follows_from (word_of b) b (stand_at n)) (and_right (nothing b) (each b) (is_sound b h)) (state_of p / 6 - 1) (stand_within p))

-- a word of zeros has no state
zero-state : (p : Stand) → bit_and (0 / 2 ^ state_of p) 63 ≡ 0
zero-state p = rw (zero-div (2 ^ state_of p))

pub leads_nowhere : Leads (replicate 256 0)
leads_nowhere = record { nowhere = λ b h. none b h 0; somewhere = λ p b h. nowhere_by (none b h (state_of p)) }
  where
    none : (b : ℕ) → b < 256 → (n : ℕ) → bit_and (get_or (replicate {A = ℕ} 256 0) b 0 / 2 ^ n) 63 ≡ 0
    none b h n = ap (λ (w : ℕ). bit_and (w / 2 ^ n) 63) (get_or-replicate {A = ℕ} 256 b 0 0 h) ∙ rw (zero-div (2 ^ n))

-- A table that leads so leads so in one way: a state is that of one stand at most, and whether it is that of any is computed.
state_set : IsSet State
state_set = Prim.hlevel (props, ⊎_set)

Goes-prop : (p : Stand) (b : ℕ) (q : Stand) → IsProp (Goes p b q)
Goes-prop p b q = Prim.hlevel state_set

state_some : (q : Stand) → 0 ≡ state_of q → ⊥
unfolding stand_at stands
state_some q e = let first : point U.one ≡ q = ap (λ (n : ℕ). stand_at (n / 6 - 1)) e ∙ stand_is q in omega (arith, ap state_of first)

followed_to : {p : Stand} {b r : ℕ} → Followed p b r → (q : Stand) → r ≡ state_of q → Goes p b q
followed_to M.lost q e = absurd (state_some q e)
followed_to {p} {b} (went q' g) q e = subst (Goes p b) (same_stand q' q e) g

followed_nowhere : {p : Stand} {b r : ℕ} → Followed p b r → ((q : Stand) → r ≡ state_of q → ⊥) → r ≡ 0
followed_nowhere M.lost f = refl
followed_nowhere (went q g) f = absurd (f q refl)

followed_by : {p : Stand} {b r : ℕ} → ((q : Stand) → r ≡ state_of q → Goes p b q) → (((q : Stand) → r ≡ state_of q → ⊥) → r ≡ 0) → Followed p b r
followed_by {p} {b} {r} there nowhere = by (eqb r (state_of nearest)) refl
  where
    nearest : Stand
    nearest = stand_at (r / 6 - 1)

    by : (x : Bool) → eqb r (state_of nearest) ≡ x → Followed p b r
    by true e = let same : r ≡ state_of nearest = eqb-true r (state_of nearest) e in subst (Followed p b) (sym same) (went nearest (there nearest same))
    by false e =
        nowhere_by
        (nowhere (λ q same.
        let it : nearest ≡ q = ap (λ (n : ℕ). stand_at (n / 6 - 1)) same ∙ stand_is q in
        eqb-false r (state_of nearest) e (same ∙ sym (ap state_of it))))

pub open_leads : {t : List ℕ} → ∥ Leads t ∥₁ → Leads t
open_leads {t} h =
    record {
      nowhere = λ b l. ∥∥₁_elim h (ℕ_set _ _) (λ x. x.nowhere b l);
      somewhere = λ p b l.
          followed_by (λ q e. ∥∥₁_elim h (Goes-prop p b q) (λ x. followed_to (x.somewhere p b l) q e))
          (λ f. ∥∥₁_elim h (ℕ_set _ _) (λ x. followed_nowhere (x.somewhere p b l) f));
    }

-- one byte by a table
pub leads_follows : {t : List ℕ} → Leads t → (b state : ℕ) → b < 256 → Follows b state (bit_and (get_or t b 0 / 2 ^ state) 63)
leads_follows {t} l b state h =
    record {
      small = omega (arith, and_le_r (get_or t b 0 / 2 ^ state) 63);
      nowhere = λ e. ap (λ (n : ℕ). bit_and (get_or t b 0 / 2 ^ n) 63) e ∙ l.nowhere b h;
      somewhere = λ p e. subst (λ n. Followed p b (bit_and (get_or t b 0 / 2 ^ n) 63)) (sym e) (l.somewhere p b h);
    }

-- a byte at a place
arrived_on : {s : List ℕ} {i j a b : ℕ} → Arrived s i j a → j < length s → Follows (get_or s j 0) a b → Arrived s i (j + 1) b
arrived_on {s} {i} {j} M.lost h x = subst (Arrived s i (j + 1)) (sym (x.nowhere refl)) M.lost
arrived_on {s} {i} {j} (came p l) h x = by (x.somewhere p refl)
  where
    by : {n : ℕ} → Followed p (get_or s j 0) n → Arrived s i (j + 1) n
    by M.lost = M.lost
    by (went q g) = came q (λ f. led_go (l f) (inside q f) h (g f))

-- the only odd state is that between two characters, where the machine has read whole ones
arrived_between : {s : List ℕ} {i j r : ℕ} → Arrived s i j r → bit_and r 1 ≡ 1 → Characters s i j
arrived_between M.lost e = absurd (omega arith)
arrived_between (came between l) e = record { led = l }
arrived_between (came escape l) e = absurd (omega arith)
arrived_between (came (point U.one) l) e = absurd (omega arith)
arrived_between (came (point U.two) l) e = absurd (omega arith)
arrived_between (came (point U.three) l) e = absurd (omega arith)
arrived_between (came (point U.due_e0) l) e = absurd (omega arith)
arrived_between (came (point U.due_ed) l) e = absurd (omega arith)
arrived_between (came (point U.due_f0) l) e = absurd (omega arith)
arrived_between (came (point U.due_f4) l) e = absurd (omega arith)

pub characters_none : {s : List ℕ} {i : ℕ} → i ≤ length s → Characters s i i
characters_none {s} {i} h = record { led = λ f. led_here s i (in_string f) h }

pub characters_then : {s : List ℕ} {i j k : ℕ} → Characters s i j → Characters s j k → Characters s i k
characters_then x y = record { led = λ f. led_on (x.led f) (y.led f) }

-- a reader at its start
pub reader_start : {s : List ℕ} {a : ℕ} → a ≤ length s → Reader s a a 57 a
reader_start {s} {a} h =
    record { within = h; whole = characters_none h; arrived = came between (λ f. led_here s a (in_string f) h) }

-- by a byte: the end stays, or is after the byte where it ends a character
module _ {s : List ℕ} {i state e r : ℕ} (h : i < length s) (y : Follows (get_or s i 0) state r) where
  pub passes_inside : Passes s i state e r e
  passes_inside =
      record {
        on = λ a x. record { within = omega arith; whole = x.whole; arrived = arrived_on x.arrived h y };
      }

  pub passes_between : bit_and r 1 ≡ 1 → Passes s i state e r (i + 1)
  passes_between q =
      record {
        on = λ a x.
            let now = arrived_on x.arrived h y in
            record { within = omega arith; whole = arrived_between now q; arrived = now };
      }

-- and by four
pub passes_four : {s : List ℕ} {a i p₀ p₁ p₂ p₃ p₄ e₀ e₁ e₂ e₃ e₄ : ℕ} → Reader s a i p₀ e₀
    → Passes s i p₀ e₀ p₁ e₁ → Passes s (i + 1) p₁ e₁ p₂ e₂ → Passes s (i + 2) p₂ e₂ p₃ e₃ → Passes s (i + 3) p₃ e₃ p₄ e₄
    → Reader s a (i + 4) p₄ e₄
passes_four {s} {a} {i} r w x y z = at_place 3 z (at_place 2 y (at_place 1 x (w.on a r)))
  where
    at_place : (n : ℕ) {p e q f : ℕ} → Passes s (i + n) p e q f → Reader s a (i + n) p e → Reader s a (i + (n + 1)) q f
    at_place n {p} {e} {q} {f} x r = let k : i + n + 1 ≡ i + (n + 1) = omega arith in subst (λ j. Reader s a j q f) k (x.on a r)

-- a move on its way into a table: the word w has been added to those of its bytes before b
pub record Adding (low high w b : ℕ) (t t' : List ℕ) : Type 0 where
  pub long : length t' ≡ 256
  pub each : (j : ℕ) → j < 256 → get_or t' j 0 ≡ or_if ((leb low j && leb j high) && ltb j b) (get_or t j 0) w

none_before : (low high j : ℕ) → ((leb low j && leb j high) && ltb j low) ≡ false
none_before low high j = grind (arith, nat_tests)

one_more : (low high b j : ℕ) → (j ≡ b → ⊥) → ((leb low j && leb j high) && ltb j b) ≡ ((leb low j && leb j high) && ltb j (b + 1))
one_more low high b j n = grind (arith, nat_tests)

this_one : (low high b : ℕ) → low ≤ b → b ≤ high → ((leb low b && leb b high) && ltb b (b + 1)) ≡ true
this_one low high b l h = grind (arith, nat_tests)

not_yet : (low high b : ℕ) → ((leb low b && leb b high) && ltb b b) ≡ false
not_yet low high b = grind (arith, nat_tests)

all_before : (low high b j : ℕ) → high < b → ((leb low j && leb j high) && ltb j b) ≡ (leb low j && leb j high)
all_before low high b j h = grind (arith, nat_tests)

pub adding_start : {low high w : ℕ} {t : List ℕ} → length t ≡ 256 → Adding low high w low t t
adding_start {low} {high} {w} {t} h =
    record { long = h; each = λ j l. ap (λ (x : Bool). or_if x (get_or t j 0) w) (sym (none_before low high j)) }

pub adding_more : {low high w b : ℕ} {t t' : List ℕ} → Adding low high w b t t' → low ≤ b → b ≤ high → b < 256
    → Adding low high w (b + 1) t (set t' b (bit_or (get_or t' b 0) w))
adding_more {low} {high} {w} {b} {t} {t'} a h u k =
    record { long = length-set t' b (bit_or (get_or t' b 0) w) ∙ a.long; each = λ j l. by j l (eqb j b) refl }
  where
    by : (j : ℕ) → j < 256 → (x : Bool) → eqb j b ≡ x
        → get_or (set t' b (bit_or (get_or t' b 0) w)) j 0 ≡ or_if ((leb low j && leb j high) && ltb j (b + 1)) (get_or t j 0) w
    by j l true e =
        rw (eqb-true j b e, this_one low high b h u)
        (get_or-set_same t' b (bit_or (get_or t' b 0) w) 0 (omega (arith, a.long)) ∙ ap (λ (x : ℕ). bit_or x w) (a.each b k ∙ rw (not_yet low high b)))
    by j l false e =
        let n : j ≡ b → ⊥ = eqb-false j b e in
        get_or-set_other t' b j (bit_or (get_or t' b 0) w) 0 n ∙ a.each j l ∙ ap (λ (x : Bool). or_if x (get_or t j 0) w) (one_more low high b j n)

pub adding_done : {low high from to b : ℕ} {t t' : List ℕ} → Adding low high (to * 2 ^ from % 2 ^ 64) b t t' → high < b → MoveAdded low high from to t t'
adding_done {low} {high} {from} {to} {b} {t} {t'} a h =
    record { long = a.long; each = λ j l. a.each j l ∙ ap (λ (x : Bool). or_if x (get_or t j 0) (to * 2 ^ from % 2 ^ 64)) (all_before low high b j h) }

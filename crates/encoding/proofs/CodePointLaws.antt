-- The decoding of a code point against the grammar: whole exactly where a code point stands, and else the dead byte of a text that is to
-- begin with one.
use Rattle.std.specs.Prelude.{◌≡◌, refl, List, [], ◌∷◌, ◌++◌, false, ◌↔◌, ℕ, zero, suc, ◌≤◌, ◌<◌, length, take, drop}
use Rattle.std.proofs.Common.{ap, sym, subst, ◌∙◌, append-nil, arith, take-append-drop, take_at}
use Rattle.std.proofs.Math.Seq.{take-length}
use Rattle.encoding.specs.Bytes.{In}
use Rattle.encoding.specs.BytesLaws.{make, from_low, to_high}
use Rattle.encoding.specs.Utf8.{Wide, Tail, put_wide, c2_df, e0, e1_ec, ed, ee_ef, f0, f1_f3, f4}
use Rattle.encoding.specs.Utf8Laws.{append-wide}
use Rattle.encoding.specs.Prefix.{Alive, DeadPlace}
use Rattle.encoding.specs.PrefixLaws.{alive-take, dead_place_unique}
use Rattle.encoding.specs.CodePoint.{Decoding, whole, wrong, short, later, due, decoding, is_whole, extent, StartsWide}
use Rattle.encoding.specs.Utf8Steps.{Due, one, two, three, due_e0, due_ed, due_f0, due_f4, lowest, highest, more, due_at}
use Rattle.encoding.specs.Utf8Steps.{First, in_c2_df, in_e0, in_e1_ec, in_ed, in_ee_ef, in_f0, in_f1_f3, in_f4}
use Rattle.encoding.specs.Utf8Steps.{Next, two_one, three_two, e0_one, ed_one, f0_two, f4_two}
use Rattle.encoding.specs.Utf8Steps.{Rest, cut, under, over, last, next, Reads, empty, too_low, too_high, first}
use Rattle.encoding.specs.Utf8Steps.{due_on, due_under, due_over}
use Rattle.encoding.proofs.Utf8Reads.{next_reads, first_decoding, too_low_decoding, too_high_decoding, reads}

-- the bytes that are due, as a part of a code point
data Owed : Due → Type 0 where
  end : Tail → Owed one
  on : {d e : Due} → Next d e → In (lowest d) (highest d) → Owed e → Owed d

put_owed : {d : Due} → Owed d → List ℕ → List ℕ
put_owed (end y) s = y.byte ∷ s
put_owed (on n y o) s = y.byte ∷ put_owed o s

-- a first byte and what it makes due are a code point
complete : {b : ℕ} {d : Due} → First b d → Owed d → Wide
complete {b} (in_c2_df l h) (end y) = c2_df (make b l h) y
complete {b} (in_e0 l h) (on e0_one y (end z)) = e0 (make b l h) y z
complete {b} (in_e1_ec l h) (on two_one y (end z)) = e1_ec (make b l h) y z
complete {b} (in_ed l h) (on ed_one y (end z)) = ed (make b l h) y z
complete {b} (in_ee_ef l h) (on two_one y (end z)) = ee_ef (make b l h) y z
complete {b} (in_f0 l h) (on f0_two y (on two_one z (end w))) = f0 (make b l h) y z w
complete {b} (in_f1_f3 l h) (on three_two y (on two_one z (end w))) = f1_f3 (make b l h) y z w
complete {b} (in_f4 l h) (on f4_two y (on two_one z (end w))) = f4 (make b l h) y z w
complete (in_c2_df l h) (on x y o) = elim x [ ]
complete (in_e0 l h) (on e0_one y (on x z o)) = elim x [ ]
complete (in_e1_ec l h) (on two_one y (on x z o)) = elim x [ ]
complete (in_ed l h) (on ed_one y (on x z o)) = elim x [ ]
complete (in_ee_ef l h) (on two_one y (on x z o)) = elim x [ ]
complete (in_f0 l h) (on f0_two y (on two_one z (on x w o))) = elim x [ ]
complete (in_f1_f3 l h) (on three_two y (on two_one z (on x w o))) = elim x [ ]
complete (in_f4 l h) (on f4_two y (on two_one z (on x w o))) = elim x [ ]

complete_written : {b : ℕ} {d : Due} (f : First b d) (o : Owed d) (s : List ℕ) → put_wide (complete f o) s ≡ b ∷ put_owed o s
unfolding complete put_wide put_owed make
complete_written (in_c2_df l h) (end y) s = refl
complete_written (in_e0 l h) (on e0_one y (end z)) s = refl
complete_written (in_e1_ec l h) (on two_one y (end z)) s = refl
complete_written (in_ed l h) (on ed_one y (end z)) s = refl
complete_written (in_ee_ef l h) (on two_one y (end z)) s = refl
complete_written (in_f0 l h) (on f0_two y (on two_one z (end w))) s = refl
complete_written (in_f1_f3 l h) (on three_two y (on two_one z (end w))) s = refl
complete_written (in_f4 l h) (on f4_two y (on two_one z (end w))) s = refl
complete_written (in_c2_df l h) (on x y o) s = elim x [ ]
complete_written (in_e0 l h) (on e0_one y (on x z o)) s = elim x [ ]
complete_written (in_e1_ec l h) (on two_one y (on x z o)) s = elim x [ ]
complete_written (in_ed l h) (on ed_one y (on x z o)) s = elim x [ ]
complete_written (in_ee_ef l h) (on two_one y (on x z o)) s = elim x [ ]
complete_written (in_f0 l h) (on f0_two y (on two_one z (on x w o))) s = elim x [ ]
complete_written (in_f1_f3 l h) (on three_two y (on two_one z (on x w o))) s = elim x [ ]
complete_written (in_f4 l h) (on f4_two y (on two_one z (on x w o))) s = elim x [ ]

-- the other way: the bytes of a code point are read whole
tail_whole : (y : Tail) (s : List ℕ) → due_at one (y.byte ∷ s) ≡ whole 1
unfolding due
tail_whole y s = due_on 0x80 0xBF 0 y.byte s (from_low y) (to_high y)

next_whole :
    {d e : Due} {x : Decoding} → Next d e → (y : In (lowest d) (highest d)) (s : List ℕ) → due_at e s ≡ x →
    due_at d (y.byte ∷ s) ≡ later x
next_whole n y s r = next_reads n y.byte s (from_low y) (to_high y) ∙ ap later r

first_whole :
    {d : Due} {lo hi : ℕ} {x : Decoding} (b : In lo hi) → First b.byte d → (s : List ℕ) → due_at d s ≡ x →
    decoding (b.byte ∷ s) ≡ later x
first_whole b f s r = first_decoding f s ∙ ap later r

-- how many bytes a code point has
unfoldable pub size_of : Wide → ℕ
unfolding put_wide
size_of p = length (put_wide p [])

pub wide_decoding : (p : Wide) (s : List ℕ) → decoding (put_wide p s) ≡ whole (size_of p)
unfolding size_of
wide_decoding (c2_df x y) s = first_whole x (in_c2_df (from_low x) (to_high x)) _ (tail_whole y s)
wide_decoding (e0 x y z) s = first_whole x (in_e0 (from_low x) (to_high x)) _ (next_whole e0_one y _ (tail_whole z s))
wide_decoding (e1_ec x y z) s = first_whole x (in_e1_ec (from_low x) (to_high x)) _ (next_whole two_one y _ (tail_whole z s))
wide_decoding (ed x y z) s = first_whole x (in_ed (from_low x) (to_high x)) _ (next_whole ed_one y _ (tail_whole z s))
wide_decoding (ee_ef x y z) s = first_whole x (in_ee_ef (from_low x) (to_high x)) _ (next_whole two_one y _ (tail_whole z s))
wide_decoding (f0 x y z w) s =
    first_whole x (in_f0 (from_low x) (to_high x)) _ (next_whole f0_two y _ (next_whole two_one z _ (tail_whole w s)))
wide_decoding (f1_f3 x y z w) s =
    first_whole x (in_f1_f3 (from_low x) (to_high x)) _ (next_whole three_two y _ (next_whole two_one z _ (tail_whole w s)))
wide_decoding (f4 x y z w) s =
    first_whole x (in_f4 (from_low x) (to_high x)) _ (next_whole f4_two y _ (next_whole two_one z _ (tail_whole w s)))

-- some bytes complete whatever is due
tail : Tail
tail = record { byte = 0x80; ok = tt }

least : Wide
least = c2_df (record { byte = 0xC2; ok = tt }) tail

owed : (d : Due) → Owed d
owed one = end tail
owed two = on two_one tail (end tail)
owed three = on three_two tail (on two_one tail (end tail))
owed due_e0 = on e0_one (record { byte = 0xA0; ok = tt }) (end tail)
owed due_ed = on ed_one (record { byte = 0x80; ok = tt }) (end tail)
owed due_f0 = on f0_two (record { byte = 0x90; ok = tt }) (on two_one tail (end tail))
owed due_f4 = on f4_two (record { byte = 0x80; ok = tt }) (on two_one tail (end tail))

-- one byte more
pub is_whole_later : (x : Decoding) → is_whole (later x) ≡ is_whole x
is_whole_later (whole n) = refl
is_whole_later (wrong k) = refl
is_whole_later short = refl

pub extent_later : (b : ℕ) (s : List ℕ) (x : Decoding) → extent (b ∷ s) (later x) ≡ suc (extent s x)
extent_later b s (whole n) = refl
extent_later b s (wrong k) = refl
extent_later b s short = refl

-- what was read so far can be completed
owed_from :
    {d : Due} {s : List ℕ} {x : Decoding} → Rest d s x → (n : ℕ) → n ≤ extent s x →
    (o : Owed d) × (v : List ℕ) × (put_owed o [] ≡ take n s ++ v)
unfolding put_owed make
owed_from {d} r zero h = (owed d, put_owed (owed d) [], refl)
owed_from cut (suc n) h = absurd (omega arith)
owed_from (under l) (suc n) h = absurd (omega arith)
owed_from (over l) (suc n) h = absurd (omega arith)
owed_from (last {b} {s} l u) (suc n) h = (end (make b l u), [], rw (let z : n ≡ 0 = omega arith in z))
owed_from (next {b} {s} {x} m l u r) (suc n) h =
    let more = owed_from r n (omega (arith, extent_later b s x)) in
    (on m (make b l u) more.0, more.1, ap (λ (t : List ℕ). b ∷ t) more.2)

-- the decoding ends within the text
rest_within : {d : Due} {s : List ℕ} {x : Decoding} → Rest d s x → extent s x ≤ length s
rest_within cut = omega arith
rest_within (under l) = omega arith
rest_within (over l) = omega arith
rest_within (last l u) = omega arith
rest_within (next {b} {s} {x} m l u r) = omega (arith, rest_within r, extent_later b s x)

reads_within : {s : List ℕ} {x : Decoding} → Reads s x → extent s x ≤ length s
reads_within empty = omega arith
reads_within (too_low l) = omega arith
reads_within (too_high l) = omega arith
reads_within (first {b} {s} {x} f r) = omega (arith, rest_within r, extent_later b s x)

pub decoding_within : (s : List ℕ) → extent s (decoding s) ≤ length s
decoding_within s = reads_within (reads s)

-- what was read so far can begin a code point
alive_reads : {s : List ℕ} {x : Decoding} → Reads s x → (n : ℕ) → suc n ≤ extent s x → Alive StartsWide (take (suc n) s)
unfolding Alive
alive_reads empty n h = absurd (omega arith)
alive_reads (too_low l) n h = absurd (omega arith)
alive_reads (too_high l) n h = absurd (omega arith)
alive_reads (first {b} {s} {x} f r) n h =
    let more = owed_from r n (omega (arith, extent_later b s x)) in (
      more.1,
      record {
        point = complete f more.0;
        after = [];
        written = complete_written f more.0 [] ∙ ap (λ (t : List ℕ). b ∷ t) more.2;
      },
    )

-- one byte less
later_wrong : (x : Decoding) (k : ℕ) → later x ≡ wrong k → (j : ℕ) × (k ≡ suc j) × (x ≡ wrong j)
later_wrong (whole n) k e = let z : ◌≡◌ {A = ℕ} 0 1 = cc in absurd (omega arith)
later_wrong (wrong j) k e = (j, cc, refl)
later_wrong short k e = let z : ◌≡◌ {A = ℕ} 0 1 = cc in absurd (omega arith)

later_whole : (x : Decoding) (n : ℕ) → later x ≡ whole n → (j : ℕ) × (n ≡ suc j) × (x ≡ whole j)
later_whole (whole j) n e = (j, cc, refl)
later_whole (wrong k) n e = let z : ◌≡◌ {A = ℕ} 0 1 = cc in absurd (omega arith)
later_whole short n e = let z : ◌≡◌ {A = ℕ} 0 1 = cc in absurd (omega arith)

wrong_in_rest : {d : Due} {s : List ℕ} {x : Decoding} → Rest d s x → (k : ℕ) → x ≡ wrong k → k < length s
wrong_in_rest cut k e = let z : ◌≡◌ {A = ℕ} 0 1 = cc in absurd (omega arith)
wrong_in_rest (under l) k e = let z : k ≡ 0 = cc in omega arith
wrong_in_rest (over h) k e = let z : k ≡ 0 = cc in omega arith
wrong_in_rest (last l h) k e = let z : ◌≡◌ {A = ℕ} 0 1 = cc in absurd (omega arith)
wrong_in_rest (next {x} m l h r) k e = let less = later_wrong x k e in omega (arith, less.1, wrong_in_rest r less.0 less.2)

-- a wrong byte stands in the text
wrong_within : {s : List ℕ} {x : Decoding} → Reads s x → (k : ℕ) → x ≡ wrong k → k < length s
wrong_within empty k e = let z : ◌≡◌ {A = ℕ} 0 1 = cc in absurd (omega arith)
wrong_within (too_low l) k e = let z : k ≡ 0 = cc in omega arith
wrong_within (too_high h) k e = let z : k ≡ 0 = cc in omega arith
wrong_within (first {x} f r) k e = let less = later_wrong x k e in omega (arith, less.1, wrong_in_rest r less.0 less.2)

-- a wrong byte is wrong whatever follows
module _ (u : List ℕ) where
  stuck_rest : {d : Due} {s : List ℕ} {x : Decoding} → Rest d s x → (k : ℕ) → x ≡ wrong k → due_at d (take (suc k) s ++ u) ≡ wrong k
  stuck_rest cut k e = let z : ◌≡◌ {A = ℕ} 0 1 = cc in absurd (omega arith)
  stuck_rest (under {d} {b} {s} l) k e = let z : k ≡ 0 = cc in rw z (due_under (lowest d) (highest d) (more d) b u l)
  stuck_rest (over {d} {b} {s} h) k e = let z : k ≡ 0 = cc in rw z (due_over (lowest d) (highest d) (more d) b u h)
  stuck_rest (last l h) k e = let z : ◌≡◌ {A = ℕ} 0 1 = cc in absurd (omega arith)
  stuck_rest (next {b} {s} {x} m l h r) k e =
      let less = later_wrong x k e in
      rw less.1 (next_reads m b (take (suc less.0) s ++ u) l h ∙ ap later (stuck_rest r less.0 less.2))

  stuck : {s : List ℕ} {x : Decoding} → Reads s x → (k : ℕ) → x ≡ wrong k → decoding (take (suc k) s ++ u) ≡ wrong k
  stuck empty k e = let z : ◌≡◌ {A = ℕ} 0 1 = cc in absurd (omega arith)
  stuck (too_low {b} {s} l) k e = let z : k ≡ 0 = cc in rw z (too_low_decoding b u l)
  stuck (too_high {b} {s} h) k e = let z : k ≡ 0 = cc in rw z (too_high_decoding b u h)
  stuck (first {b} {s} {x} f r) k e =
      let less = later_wrong x k e in
      rw less.1 (first_decoding f (take (suc less.0) s ++ u) ∙ ap later (stuck_rest r less.0 less.2))

-- what is read whole is a code point
rest_owed : {d : Due} {s : List ℕ} {x : Decoding} → Rest d s x → (n : ℕ) → x ≡ whole n → (o : Owed d) × (put_owed o (drop n s) ≡ s)
unfolding put_owed make
rest_owed cut n e = let z : ◌≡◌ {A = ℕ} 0 1 = cc in absurd (omega arith)
rest_owed (under l) n e = let z : ◌≡◌ {A = ℕ} 0 1 = cc in absurd (omega arith)
rest_owed (over h) n e = let z : ◌≡◌ {A = ℕ} 0 1 = cc in absurd (omega arith)
rest_owed (last {b} {s} l h) n e = let z : n ≡ 1 = cc in rw z (end (make b l h), refl)
rest_owed (next {b} {s} {x} m l h r) n e =
    let less = later_whole x n e in
    let o = rest_owed r less.0 less.2 in
    rw less.1 (on m (make b l h) o.0, ap (λ (t : List ℕ). b ∷ t) o.1)

reads_wide : {s : List ℕ} {x : Decoding} → Reads s x → (n : ℕ) → x ≡ whole n → (p : Wide) × (put_wide p (drop n s) ≡ s)
reads_wide empty n e = let z : ◌≡◌ {A = ℕ} 0 1 = cc in absurd (omega arith)
reads_wide (too_low l) n e = let z : ◌≡◌ {A = ℕ} 0 1 = cc in absurd (omega arith)
reads_wide (too_high h) n e = let z : ◌≡◌ {A = ℕ} 0 1 = cc in absurd (omega arith)
reads_wide (first {b} {s} {x} f r) n e =
    let less = later_whole x n e in
    let o = rest_owed r less.0 less.2 in
    rw less.1 (complete f o.0, complete_written f o.0 (drop less.0 s) ∙ ap (λ (t : List ℕ). b ∷ t) o.1)

pub whole_wide : (s : List ℕ) (n : ℕ) → decoding s ≡ whole n → (p : Wide) × (put_wide p (drop n s) ≡ s)
whole_wide s n e = reads_wide (reads s) n e

-- a code point of n bytes is read exactly where its bytes stand
pub whole_exactly : (s : List ℕ) (n : ℕ) → (decoding s ≡ whole n) ↔ ((p : Wide) × (put_wide p [] ≡ take n s) × (size_of p ≡ n))
unfolding size_of
whole_exactly s n = (there, λ w. back w.0 w.1 w.2)
  where
    there : decoding s ≡ whole n → (p : Wide) × (put_wide p [] ≡ take n s) × (size_of p ≡ n)
    there e =
        let w = whole_wide s n e in
        let p = w.0 in
        let size : size_of p ≡ n = cc (wide_decoding p (drop n s), w.1) in
        (p, sym (take_at (put_wide p []) (drop n s) n size) ∙ ap (take n) (sym (append-wide p [] (drop n s)) ∙ w.1), size)

    back : (p : Wide) → put_wide p [] ≡ take n s → size_of p ≡ n → decoding s ≡ whole n
    back p e size =
        ap decoding (sym (take-append-drop n s) ∙ ap (λ (t : List ℕ). t ++ drop n s) (sym e) ∙ sym (append-wide p [] (drop n s)))
        ∙ wide_decoding p (drop n s)
        ∙ ap whole size

-- with a wrong byte no code point begins
dead_at : (s : List ℕ) (k : ℕ) → decoding s ≡ wrong k → Alive StartsWide (take (suc k) s) → ⊥
unfolding Alive
dead_at s k e a =
    let w = a.1 in
    let z : ◌≡◌ {A = ℕ} 0 1 = cc (stuck a.0 (reads s) k e, wide_decoding w.point w.after, w.written) in
    omega arith

-- where no code point stands, its dead byte is where the decoding ends
pub dead_byte : (s : List ℕ) → is_whole (decoding s) ≡ false → DeadPlace StartsWide s (extent s (decoding s))
dead_byte s e = record { within = decoding_within s; before = alive_reads (reads s); dead = ends (decoding s) refl e }
  where
    ends :
        (x : Decoding) → decoding s ≡ x → is_whole x ≡ false → extent s x < length s →
        Alive StartsWide (take (suc (extent s x)) s) → ⊥
    ends (whole n) r i h a = let z : ◌≡◌ {A = ℕ} 0 1 = cc in omega arith
    ends (wrong k) r i h a = dead_at s k r a
    ends short r i h a = omega arith

whole_starts : (s : List ℕ) (n : ℕ) → decoding s ≡ whole n → StartsWide s
whole_starts s n e = let w = whole_wide s n e in record { point = w.0; after = drop n s; written = w.1 }

starts_alive : (s : List ℕ) → StartsWide s → Alive StartsWide s
unfolding Alive
starts_alive s w = ([], rw append-nil w)

dead_of : (s : List ℕ) (x : Decoding) → decoding s ≡ x → is_whole x ≡ false → DeadPlace StartsWide s (extent s x)
dead_of s x e w = rw e at (dead_byte s (ap is_whole e ∙ w))

-- a byte is wrong exactly if it is the dead byte
pub wrong_exactly : (s : List ℕ) (k : ℕ) → (decoding s ≡ wrong k) ↔ ((k < length s) × DeadPlace StartsWide s k)
wrong_exactly s k = (λ e. (wrong_within (reads s) k e, dead_of s (wrong k) e refl), λ d. back (decoding s) refl d.0 d.1)
  where
    back : (x : Decoding) → decoding s ≡ x → k < length s → DeadPlace StartsWide s k → decoding s ≡ wrong k
    back (whole n) e h d = absurd (d.dead h (alive-take StartsWide s (suc k) (starts_alive s (whole_starts s n e))))
    back (wrong j) e h d = cc (dead_place_unique StartsWide s (dead_of s (wrong j) e refl) d)
    back short e h d = absurd (omega (arith, dead_place_unique StartsWide s (dead_of s short e refl) d))

-- a text is short exactly if no code point stands there and one can begin with it
pub short_exactly : (s : List ℕ) → (decoding s ≡ short) ↔ ((StartsWide s → ⊥) × Alive StartsWide s)
short_exactly s = (λ e. (none e, all s (dead_of s short e refl)), λ d. back (decoding s) refl d.0 d.1)
  where
    none : decoding s ≡ short → StartsWide s → ⊥
    none e w = let z : ◌≡◌ {A = ℕ} 0 1 = cc (wide_decoding w.point w.after, w.written) in omega arith

    all : (s : List ℕ) → DeadPlace StartsWide s (length s) → Alive StartsWide s
    all [] d = alive-take StartsWide (put_wide least []) 0 (starts_alive (put_wide least []) (record { point = least; after = []; written = refl }))
    all (b ∷ t) d = subst (Alive StartsWide) (take-length (b ∷ t)) (d.before (length t) (omega arith))

    back : (x : Decoding) → decoding s ≡ x → (StartsWide s → ⊥) → Alive StartsWide s → decoding s ≡ short
    back (whole n) e h a = absurd (h (whole_starts s n e))
    back (wrong j) e h a = absurd (dead_at s j e (alive-take StartsWide s (suc j) a))
    back short e h a = e

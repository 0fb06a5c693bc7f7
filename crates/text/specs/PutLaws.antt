-- Laws of a text put into a buffer: texts put one after the other are one text.
use Rattle.std.specs.Prelude.{◌≡◌, refl, ℕ, ◌+◌, ◌-◌, ◌≤◌, ◌<◌, get_or, set}
use Rattle.std.proofs.Math.Path.{ap, sym}
use Rattle.std.proofs.Common.{◌∙◌, add-zero, zero-add, add-one, arith, drop_of_length-le, length-append, length-take, length-drop, take-append-drop, take_at, drop-cons}
use mathlib.Core.List.{List, [], ◌∷◌, ◌++◌, append_assoc}
use Rattle.std.proofs.Math.ListN.{length, take, drop}
use Rattle.std.proofs.Math.Seq.{length-take-le, drop_at, drop-drop, take-append-le, take-take}
use Rattle.std.proofs.lemmas.List.{set_split}
use Rattle.text.specs.Put.{put, Room, Written, Printed}

module _ (at : ℕ) (b : List ℕ) where
  pub put_none : put [] at b ≡ b
  unfolding put
  put_none = rw (add-zero at) (take-append-drop at b)

  pub put_one : (x : ℕ) → at < length b → put (x ∷ []) at b ≡ set b at x
  unfolding put
  put_one x h = rw (add-one at) (sym (set_split b at x h))

  module _ (s : List ℕ) (room : Room s at b) where
    head_length : length (take at b ++ s) ≡ at + length s
    head_length = length-append (take at b) s ∙ ap (λ (k : ℕ). k + length s) (length-take-le at b (omega arith))

    pub put-length : length (put s at b) ≡ length b
    unfolding put
    put-length =
        let h : length (take at b) ≡ at = length-take-le at b (omega arith) in
        simp (length-append, length-drop) (omega arith)

    put-take : take (at + length s) (put s at b) ≡ take at b ++ s
    unfolding put
    put-take = rw (← append_assoc (take at b) s) (take_at (take at b ++ s) (drop (at + length s) b) (at + length s) head_length)

    put-drop : drop (at + length s) (put s at b) ≡ drop (at + length s) b
    unfolding put
    put-drop = rw (← append_assoc (take at b) s) (drop_at (take at b ++ s) (drop (at + length s) b) (at + length s) head_length)

module _ (s t : List ℕ) (at : ℕ) (b : List ℕ) (room : Room (s ++ t) at b) where
  both_length : length (s ++ t) ≡ length s + length t
  both_length = length-append s t

  pub room_first : Room s at b
  room_first = omega (arith, both_length)

  pub room_second : Room t (at + length s) (put s at b)
  room_second = omega (arith, both_length, put-length at b s room_first)

  beyond_both : drop (at + length s + length t) b ≡ drop (at + length (s ++ t)) b
  beyond_both = let e : at + length s + length t ≡ at + length (s ++ t) = omega (arith, both_length) in rw e

  -- the second after the first
  pub put_both : put t (at + length s) (put s at b) ≡ put (s ++ t) at b
  unfolding put
  put_both =
      let d : drop (at + length s + length t) (put s at b) ≡ drop (at + length (s ++ t)) b
      = sym (drop-drop (length t) (at + length s) (put s at b)) ∙ ap (drop (length t)) (put-drop at b s room_first)
      ∙ drop-drop (length t) (at + length s) b ∙ beyond_both in
      ap (λ (l : List ℕ). l ++ (t ++ drop (at + length s + length t) (put s at b))) (put-take at b s room_first)
      ∙ ap (λ (l : List ℕ). (take at b ++ s) ++ (t ++ l)) d
      ∙ simp append_assoc

  -- the second before the first
  pub put_back : put s at (put t (at + length s) b) ≡ put (s ++ t) at b
  unfolding put
  put_back =
      let n : length (take (at + length s) b) ≡ at + length s = length-take-le (at + length s) b (omega (arith, both_length)) in
      let f : take at (put t (at + length s) b) ≡ take at b
      = take-append-le at (take (at + length s) b) (t ++ drop (at + length s + length t) b) (omega arith)
      ∙ take-take at (at + length s) b (omega arith) in
      let d : drop (at + length s) (put t (at + length s) b) ≡ t ++ drop (at + length s + length t) b
      = drop_at (take (at + length s) b) (t ++ drop (at + length s + length t) b) (at + length s) n in
      ap (λ (l : List ℕ). l ++ (s ++ drop (at + length s) (put t (at + length s) b))) f
      ∙ ap (λ (l : List ℕ). take at b ++ (s ++ l)) d
      ∙ ap (λ (l : List ℕ). take at b ++ (s ++ (t ++ l))) beyond_both
      ∙ simp append_assoc

-- one text after another is one text
pub written_both :
    {s t : List ℕ} {at : ℕ} {b m a : List ℕ} {i j : ℕ} → Written s at b m i → Written t i m a j → Room (s ++ t) at b → Written (s ++ t) at b a j
written_both {s} {t} {at} {b} {m} {a} {i} {j} p q room =
    record {
      end_is = q.end_is ∙ omega (arith, p.end_is, both_length s t at b room);
      after_is = q.after_is ∙ rw (p.end_is, p.after_is) (put_both s t at b room);
    }

-- and there is room for the other
pub room_after : {s : List ℕ} {at : ℕ} {b m : List ℕ} {i : ℕ} (t : List ℕ) → Written s at b m i → Room (s ++ t) at b → Room t i m
room_after {s} {at} {b} t p room = rw (p.end_is, p.after_is) (room_second s t at b room)

-- a text that is put at the start
pub printed : {t b a : List ℕ} {j : ℕ} → Written t 0 b a j → Room t 0 b → Printed t b a j
unfolding put
printed {t} {b} {a} {j} p room =
    let e : j ≡ length t = p.end_is ∙ zero-add (length t) in
    record {
      size_is = e;
      text_is = rw (e, p.after_is) (take_at t (drop (0 + length t) b) (length t) refl);
      beyond = rw (e, p.after_is) (drop_at t (drop (0 + length t) b) (length t) refl ∙ rw (zero-add (length t)));
    }

-- a text byte by byte, from its first byte on
pub put_next : (x : ℕ) (t : List ℕ) (at : ℕ) (b : List ℕ) → Room (x ∷ t) at b → put t (at + 1) (set b at x) ≡ put (x ∷ t) at b
put_next x t at b room = rw (← put_one at b x (omega arith)) (put_both (x ∷ []) t at b room)

-- and from its last byte on
pub put_last :
    (s : List ℕ) (x at : ℕ) (b : List ℕ) → Room (s ++ (x ∷ [])) at b → put s at (set b (at + length s) x) ≡ put (s ++ (x ∷ [])) at b
put_last s x at b room =
    let h : at + length s < length b = omega (arith, both_length s (x ∷ []) at b room) in
    rw (← put_one (at + length s) b x h) (put_back s (x ∷ []) at b room)

-- the byte at i of a word, and the bytes after it
pub put_from :
    (w : List ℕ) (i at : ℕ) (b : List ℕ) → i < length w → at + length w ≤ length b →
    put (drop (i + 1) w) (at + (i + 1)) (set b (at + i) (get_or w i 0)) ≡ put (drop i w) (at + i) b
put_from w i at b h room =
    let d : drop i w ≡ get_or w i 0 ∷ drop (i + 1) w = rw (add-one i) (drop-cons w i 0 h) in
    let n : length (drop (i + 1) w) ≡ length w - (i + 1) = length-drop (i + 1) w in
    let k : at + (i + 1) ≡ at + i + 1 = omega arith in
    rw (k, d) (put_next (get_or w i 0) (drop (i + 1) w) (at + i) b (omega arith))

pub put_rest_none : (w : List ℕ) (i at : ℕ) (b : List ℕ) → length w ≤ i → put (drop i w) (at + i) b ≡ b
put_rest_none w i at b h = rw (drop_of_length-le w h) (put_none (at + i) b)

-- a text of three parts, written one after another
module _ {text : List ℕ} (r s t : List ℕ) (parts : text ≡ r ++ (s ++ t)) {at : ℕ} {b : List ℕ} (room : Room text at b) where
  whole : Room (r ++ (s ++ t)) at b
  whole = rw parts at room

  pub first_fits : Room r at b
  first_fits = room_first r (s ++ t) at b whole

  module _ {m : List ℕ} {i : ℕ} (one : Written r at b m i) where
    rest_fits : Room (s ++ t) i m
    rest_fits = room_after (s ++ t) one whole

    pub second_fits : Room s i m
    second_fits = room_first s t i m rest_fits

    module _ {n : List ℕ} {j : ℕ} (two : Written s i m n j) where
      pub third_fits : Room t j n
      third_fits = room_after t two rest_fits

      pub three_written : {a : List ℕ} {k : ℕ} → Written t j n a k → Written text at b a k
      three_written three = rw parts (written_both one (written_both two three rest_fits) whole)

-- the part of the buffer that holds the text
module _ {t b a : List ℕ} {j : ℕ} (p : Printed t b a j) where
  pub printed_part : j ≡ length (take j a)
  printed_part = p.size_is ∙ ap length (sym p.text_is)

  pub printed_within : j ≤ length a
  printed_within = omega (arith, printed_part, length-take j a)

-- A name whose bytes up to some place are neither quotes nor backslashes: no backslash is among them, and the name ends where it ends from there on.
-- Assumes nothing.
use mathlib.Core.Path.{◌≡◌, refl, sym, ap, subst, ◌∙◌}
use mathlib.Core.List.{List, [], ◌∷◌, ◌++◌}
use mathlib.Core.Bool.{true, false, false≢true}
use Prim.Native.Nat.{ℕ, zero, suc, ◌+◌, ◌-◌, ◌≤◌, ◌<◌}
use native.Mathlib.Omega.{arith}
use lib.ListN.{length, take, drop, get_or, length-append}
use lib.Seq.{slice, drop-cons}
use Rattle.blocks.specs.Words.{odd_before}
use Rattle.encoding.specs.Unescape.{NoBackslash, none, more}
use Rattle.json_text.specs.Append.{append_char}
use Rattle.json_text.specs.Grammar.{Char, put_char, put_chars}
use Rattle.lanes.specs.Kinds.{unquoted, bare}
use Rattle.swar.specs.Passing.{at_start, ends_at}
use Rattle.swar.specs.Run.{Passed, Run}
use Rattle.scan.specs.Places.{head_of, past, slice_is}
use Rattle.scan.specs.Scans.{EndsString, EndsName}
use Rattle.scan.specs.ShapeLaws.{CharShape, escape, itself, char_shape}
use Rattle.scan.proofs.Laws.{run_here, run_past, within_start, string_closed}

none_taken : (s : List ℕ) (n a : ℕ) → Passed bare s a (a + n) → NoBackslash (take n (drop a s))
unfolding bare
none_taken s zero a p = none
none_taken s (suc n) a p =
    rw (drop-cons s a 0 inside)
    (more no_backslash
    (none_taken s n (suc a)
    (record { forward = omega arith; within = omega (arith, p.within); each = λ j l h. p.each j (omega arith) (omega arith) })))
  where
    inside : a < length s
    inside = omega (arith, p.within)

    no_backslash : get_or s a 0 ≡ 0x5C → ⊥
    no_backslash e = false≢true (sym (ap bare e) ∙ p.each a (omega arith) (omega arith))

bare_slice : {s : List ℕ} {a q : ℕ} → Passed bare s a q → NoBackslash (slice a q s)
bare_slice {s} {a} {q} p =
    let z : q ≡ a + (q - a) = omega (arith, p.forward) in
    rw (slice_is a q s) (none_taken s (q - a) a (subst (λ (i : ℕ). Passed bare s a i) z p))

-- the string that stands at a, where the run of such bytes ends at q and a string that stands there ends at r
module _ {s : List ℕ} {q r : ℕ} (h : EndsString s q r) where
  abbrev EndsAt : ℕ → List Char → Type 0
  EndsAt a cs = r ≡ a + length (put_chars cs []) + 1

  -- nothing is passed
  string_here : {a : ℕ} → Run bare s a q → (cs : List Char) (rest : List ℕ) → drop a s ≡ put_chars cs (0x22 ∷ rest)
      → (b : ℕ) (u : List ℕ) → bare b ≡ false → drop a s ≡ b ∷ u → EndsAt a cs
  string_here {a} run cs rest e b u f d =
      let z : q ≡ a = run_here run (ap bare (head_of s a b u d).byte_is ∙ f) in
      (subst (λ (i : ℕ). EndsString s i r) z h).exact cs rest e

  -- character by character
  string_past : {a : ℕ} → Run bare s a q → (cs : List Char) (rest : List ℕ) → drop a s ≡ put_chars cs (0x22 ∷ rest) → EndsAt a cs
  unfolding put_chars bare
  string_past run [] rest e = string_here run [] rest e 0x22 rest refl e
  string_past {a} run (c ∷ cs) rest e = go (char_shape c) (λ i on. string_past on cs rest)
    where
      go : CharShape c → ((i : ℕ) → Run bare s i q → drop i s ≡ put_chars cs (0x22 ∷ rest) → EndsAt i cs) → EndsAt a (c ∷ cs)
      go (escape f) onward = let (u, z) = f (put_chars cs (0x22 ∷ rest)) in string_here run (c ∷ cs) rest e 0x5C u refl (e ∙ z)
      go (itself f) onward =
          let d : drop a s ≡ put_char c [] ++ put_chars cs (0x22 ∷ rest) = e ∙ append_char c [] (put_chars cs (0x22 ∷ rest)) in
          omega (
            arith,
            onward (a + length (put_char c [])) (run_past (put_char c []) (put_chars cs (0x22 ∷ rest)) f d run)
                (past s a (put_char c []) (put_chars cs (0x22 ∷ rest)) d),
            ap length (append_char c [] (put_chars cs [])),
            length-append (put_char c []) (put_chars cs []),
          )

module _ {s : List ℕ} {a q : ℕ} (run : Run bare s a q) where
  name_ends : {r : ℕ} → EndsString s q r → EndsString s a r
  name_ends h = record { onward = omega (arith, run.passed.forward, h.onward); within = h.within; exact = string_past h run }

  -- a quote ends the run
  pub name_closed : q < length s → get_or s q 0 ≡ 0x22 → EndsName s a (q + 1) false
  unfolding unquoted odd_before
  name_closed h e =
      let inside : q ≤ length s = omega arith in
      let nothing : q - q ≡ 0 = omega arith in
      let same : q ≡ q + 1 - 1 = omega arith in
      record {
        ends =
            name_ends
            (string_closed (within_start s q inside) (ends_at (at_start inside) (ap unquoted e)) h (ap (odd_before false (drop q s)) nothing));
        bare = λ _. subst (λ (i : ℕ). NoBackslash (slice a i s)) same (bare_slice run.passed);
      }

  -- a backslash does, or the end of the record
  pub name_on : {r : ℕ} → EndsString s q r → EndsName s a r true
  name_on h = record { ends = name_ends h; bare = λ e. absurd (false≢true (sym e)) }

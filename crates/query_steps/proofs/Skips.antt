-- Blanks that were skipped: they reach to where the scan stopped, and a control state that takes blanks stays as it is over them, so that
-- the reading goes on from behind them. Assumes nothing.
use mathlib.Core.Path.{◌≡◌, refl, ap, sym, ◌∙◌}
use mathlib.Core.List.{List, [], ◌∷◌, ◌++◌}
use Prim.Native.Nat.{ℕ, ◌+◌}
use native.Mathlib.Omega.{arith}
use lib.ListN.{length, drop, length-drop}
use Rattle.encoding.specs.Bytes.{Blank, Blanks, blank_byte, put_blanks}
use Rattle.query.specs.Machine.{Control, at, step}
use Rattle.query.specs.Read.{keep, event, reading}
use Rattle.query.proofs.Spell.{moved, reads_blanks}
use Rattle.encoding.specs.BytesLaws.{length_blanks}
use Rattle.query_lexer.specs.Scans.{Skipped}

-- how far the blanks reach
pub blanks_far : {q : List ℕ} {n r : ℕ} (s : Skipped q n r) → n + length s.stand.0 ≡ r
blanks_far {q} {n} {r} s =
    omega (arith, s.from, s.within, length_blanks s.stand.0 (drop r q), ap length s.stand.1, length-drop n q, length-drop r q)

-- blanks lead a control state that takes them back to itself
pub over_blanks : {q : List ℕ} {n r : ℕ} → Skipped q n r → (c : Control) → ((b : Blank) → step (at c) (blank_byte b) ≡ at c) → event c c ≡ keep →
    reading c n (drop n q) ≡ reading c r (drop r q)
over_blanks {q} {n} {r} s c f e =
    let w : Blanks = s.stand.0 in
    ap (reading c n) (sym s.stand.1) ∙ reads_blanks c f e w n (drop r q) ∙ moved c (n + length w) r (drop r q) (blanks_far s)

-- blanks behind blanks
pub blanks_behind : (w v : Blanks) (s : List ℕ) → put_blanks (w ++ v) s ≡ put_blanks w (put_blanks v s)
unfolding put_blanks
blanks_behind [] v s = refl
blanks_behind (b ∷ w) v s = ap (λ (u : List ℕ). blank_byte b ∷ u) (blanks_behind w v s)

-- What the promise of a step rules out, also where the rest of the query is broken: no step from 1 on in `$.a!` has another place than 1,
-- none in `$[4294967296]` takes another position, none in `$['\u006cot']` another name than lot, and none stands in `$[00]`, in
-- `$[9007199254740992]` and in `$['\uDC00']`, whose dead bytes are the ones at 3, 17 and 6. Assumes nothing.
use Rattle.std.specs.Prelude.{◌≡◌, Bool, ◌&&◌, Result, Ok, Err, length, drop}
use Rattle.std.proofs.Math.Path.{refl, ap}
use Rattle.std.proofs.Common.{sym, ◌∙◌}
use mathlib.Core.List.{List, [], ◌∷◌}
use Rattle.std.proofs.Math.Bool.{true, false, not, false≢true}
use Prim.Native.Nat.{ℕ, zero, suc, ◌+◌, ◌≤◌, ◌<◌}
use native.Mathlib.Omega.{arith}
use Rattle.std.proofs.Math.Dec.{eqb}
use borrow.Author.Tests.{eqb-true, eqb-false}
use Rattle.std.proofs.Math.ListN.{get_or}
use Rattle.std.proofs.Math.Seq.{slice, slice-cons}
use Rattle.encoding.specs.Bytes as B
use Rattle.encoding.specs.Bytes.{Blank, Blanks, blank_byte, put_blanks}
use Rattle.encoding.specs.declared.Dead.{Dead}
use Rattle.query.specs.Grammar.{Segment, put_spaced, put_query, text}
use Rattle.query.specs.Steps as S
use Rattle.query.specs.Steps.{Selector}
use Rattle.query.specs.Machine.{done, run, accept, start}
use Rattle.query.specs.Read.{Placed, Reading, good, bad, reading, steps_read}
use Rattle.query.specs.Verdict.{decoded}
use Rattle.query.proofs.Place.{accepts_text}
use Rattle.query_steps.specs.declared.Found.{Found}
use Rattle.query_steps.specs.declared.Taking.{Taking}
use Rattle.query_steps.specs.declared.Taking.TheVariants.{Every, Name, Position}
use Rattle.query_steps.specs.Reader.{selector_at, placed_at, push, StepTaken, StepAt}

-- where no blank stands the step begins at once
module _ (q : List ℕ) (n : ℕ) (no_blank : (b : Blank) → get_or q n 0 ≡ blank_byte b → ⊥) where
  none_before : (m : ℕ) → n < m → m ≤ length q → (w : Blanks) (g : Segment) → put_spaced (record { before = w; segment = g }) [] ≡ slice n m q →
      length w ≡ 0
  unfolding put_spaced put_blanks
  none_before m h l [] g e = omega arith
  none_before m h l (b ∷ w) g e = absurd (no_blank b (sym (ap (λ (s : List ℕ). get_or s 0 0) (e ∙ slice-cons n m q 0 h l))))

  pub place_here : {f : Found} {m : ℕ} → StepTaken q n f m → f.place ≡ n
  place_here {f} {m} t =
      let z : length t.spaced.before ≡ 0 = none_before m t.on t.within t.spaced.before t.spaced.segment t.written in
      omega (arith, t.place)

-- `$.a!`
abbrev broken : List ℕ
broken = 0x24 ∷ 0x2E ∷ 0x61 ∷ 0x21 ∷ []

dot_no_blank : (b : Blank) → get_or broken 1 0 ≡ blank_byte b → ⊥
dot_no_blank B.space e = omega arith
dot_no_blank B.tab e = omega arith
dot_no_blank B.feed e = omega arith
dot_no_blank B.return e = omega arith

broken_rest : (f : Found) (m : ℕ) → StepTaken broken 1 f m → f.place ≡ 1
broken_rest f m t = place_here broken 1 dot_no_blank t

-- `$[4294967296]`
abbrev large : List ℕ
large = 0x24 ∷ 0x5B ∷ 0x34 ∷ 0x32 ∷ 0x39 ∷ 0x34 ∷ 0x39 ∷ 0x36 ∷ 0x37 ∷ 0x32 ∷ 0x39 ∷ 0x36 ∷ 0x5D ∷ []

-- what the first step takes; `*` where there is none
abbrev first_taken : List Placed → Selector
first_taken [] = S.every
first_taken (x ∷ l) = x.step.selector

pushed_first : (x : Placed) (r : Reading) (y : Selector) → (S.every ≡ y → ⊥) → first_taken (steps_read (push x r)) ≡ y → x.step.selector ≡ y
pushed_first x (good a) y f e = e
pushed_first x (bad p) y f e = absurd (f e)

module _ (q : List ℕ) where
  only_position : (t : Taking) (j : ℕ) → selector_at q t ≡ S.position j → t ≡ Position j
  only_position Every j e = let z : ◌≡◌ {A = ℕ} 0 1 = cc in absurd (omega arith)
  only_position (Name a b) j e = let z : ◌≡◌ {A = ℕ} 0 1 = cc in absurd (omega arith)
  only_position (Position i) j e = ap Position (cc)

  first_taken_lem : (n : ℕ) (f : Found) (m : ℕ) → StepTaken q n f m → (y : Selector) → (S.every ≡ y → ⊥) →
      first_taken (steps_read (reading done n (drop n q))) ≡ y → selector_at q f.taking ≡ y
  first_taken_lem n f m t y g e =
      pushed_first (placed_at q f) (reading done m (drop m q)) y g (ap (λ (r : Reading). first_taken (steps_read r)) (sym t.reads) ∙ e)

whole_position : (f : Found) (m : ℕ) → StepTaken large 1 f m → f.taking ≡ Position 4294967296
unfolding reading
whole_position f m t =
    only_position large f.taking 4294967296
    (first_taken_lem large 1 f m t (S.position 4294967296) (λ e. let z : ◌≡◌ {A = ℕ} 0 1 = cc in omega arith) refl)

-- `$['\u006cot']`
abbrev escaped : List ℕ
escaped = 0x24 ∷ 0x5B ∷ 0x27 ∷ 0x5C ∷ 0x75 ∷ 0x30 ∷ 0x30 ∷ 0x36 ∷ 0x63 ∷ 0x6F ∷ 0x74 ∷ 0x27 ∷ 0x5D ∷ []

name_decoded : (f : Found) (m : ℕ) → StepTaken escaped 1 f m → decoded (selector_at escaped f.taking) ≡ S.name (0x6C ∷ 0x6F ∷ 0x74 ∷ [])
unfolding reading decoded
name_decoded f m t =
    ap decoded (first_taken_lem escaped 1 f m t _ (λ e. let z : ◌≡◌ {A = ℕ} 0 1 = cc in omega arith) refl)

-- the place of a dead byte
abbrev dead_at : Reading → ℕ
dead_at (good a) = 0
dead_at (bad p) = p

-- a refusal, by its place
abbrev refused : ℕ → Result (Found × ℕ) Dead
refused p = Err (record { at = p })

-- where the byte at p is dead, and neither one nor more of the bytes from n on are a step, reading a step refuses p
module _ (q : List ℕ) (n : ℕ) where
  -- so many of them, up to k, are none
  unfoldable no_step : ℕ → Bool
  unfolding run
  no_step zero = true
  no_step (suc k) = not (accept (run start (0x24 ∷ slice n (n + suc k) q))) && no_step k

  no_step_lem : (k : ℕ) → no_step k ≡ true → (m : ℕ) → n < m → m ≤ n + k → accept (run start (0x24 ∷ slice n m q)) ≡ true → ⊥
  unfolding no_step
  no_step_lem zero e m h l x = omega arith
  no_step_lem (suc k) e m h l x = go (eqb m (n + suc k)) refl (accept (run start (0x24 ∷ slice n (n + suc k) q))) refl e (λ y z. no_step_lem k y m h z x)
    where
      go : (b : Bool) → eqb m (n + suc k) ≡ b → (a : Bool) → accept (run start (0x24 ∷ slice n (n + suc k) q)) ≡ a → (not a && no_step k) ≡ true →
          (no_step k ≡ true → m ≤ n + k → ⊥) → ⊥
      go b f true g y again = false≢true y
      go true f false g y again = false≢true (sym g ∙ ap (λ (i : ℕ). accept (run start (0x24 ∷ slice n i q))) (sym (eqb-true m (n + suc k) f)) ∙ x)
      go false f false g y again = again y (omega (arith, eqb-false m (n + suc k) f))

  refused_only : no_step (length q) ≡ true → (p : ℕ) → reading done n (drop n q) ≡ bad p → (r : Result (Found × ℕ) Dead) → StepAt q n r →
      r ≡ refused p
  unfolding text put_query
  refused_only e p g (Ok (f, m)) t =
      absurd (no_step_lem (length q) e m t.on (omega (arith, t.within)) (accepts_text (0x24 ∷ slice n m q)
      (record { tree = t.spaced ∷ []; written = ap (λ (s : List ℕ). 0x24 ∷ s) t.written })))
  refused_only e p g (Err d) t = ap refused (ap dead_at (sym t.reads ∙ g))

-- `$[00]`
abbrev zeros : List ℕ
zeros = 0x24 ∷ 0x5B ∷ 0x30 ∷ 0x30 ∷ 0x5D ∷ []

leading_zero : (r : Result (Found × ℕ) Dead) → StepAt zeros 1 r → r ≡ refused 3
unfolding reading no_step
leading_zero = refused_only zeros 1 refl 3 refl

-- `$[9007199254740992]`
abbrev beyond : List ℕ
beyond = 0x24 ∷ 0x5B ∷ 0x39 ∷ 0x30 ∷ 0x30 ∷ 0x37 ∷ 0x31 ∷ 0x39 ∷ 0x39 ∷ 0x32 ∷ 0x35 ∷ 0x34 ∷ 0x37 ∷ 0x34 ∷ 0x30 ∷ 0x39 ∷ 0x39 ∷ 0x32 ∷ 0x5D ∷ []

past_maximum : (r : Result (Found × ℕ) Dead) → StepAt beyond 1 r → r ≡ refused 17
unfolding reading no_step
past_maximum = refused_only beyond 1 refl 17 refl

-- `$['\uDC00']`
abbrev low_half : List ℕ
low_half = 0x24 ∷ 0x5B ∷ 0x27 ∷ 0x5C ∷ 0x75 ∷ 0x44 ∷ 0x43 ∷ 0x30 ∷ 0x30 ∷ 0x27 ∷ 0x5D ∷ []

low_half_alone : (r : Result (Found × ℕ) Dead) → StepAt low_half 1 r → r ≡ refused 6
unfolding reading no_step
low_half_alone = refused_only low_half 1 refl 6 refl

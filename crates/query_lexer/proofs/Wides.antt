-- Code points in a name: the machine goes from byte to byte as the rows of UTF-8 do, so that a byte that is wrong by the rows is dead.
-- Assumes nothing.
use mathlib.Core.Path.{◌≡◌, refl, subst}
use mathlib.Core.List.{List, [], ◌∷◌}
use mathlib.Core.Bool.{Bool, false}
use mathlib.Core.Option.{some}
use Prim.Native.Nat.{ℕ, ◌≤◌, ◌<◌}
use native.Mathlib.Omega.{arith}
use lib.Dec.{T}
use lib.ListN.{length, get_or, drop}
use Rattle.encoding.specs.BytesLaws as L
use Rattle.encoding.specs.Utf8.{any_tail, after_e0, after_ed, after_f0, after_f4}
use Rattle.encoding.proofs.Utf8At as A
use Rattle.encoding.proofs.Utf8At.{RestAt, ReadsAt}
use Rattle.encoding.specs.Utf8Steps as U
use Rattle.encoding.specs.Utf8Steps.{Due, lowest, highest, First, Next}
use Rattle.query.specs.Machine as M
use Rattle.query.specs.Machine.{Home, Control, inside, tail_due, dead, Rule, range}
use Rattle.query.specs.Machine.{wide_rules, rules, pick, step, final}
use Rattle.query.specs.Grammar as G
use Rattle.query.specs.Read.{bad, reading}
use Rattle.query.proofs.At.{end_at, stop_at, bad_at}
use Rattle.query.specs.MachineLaws.{hit, miss, landing, leads, all_under, dies_above}

-- the control state in which these bytes are due
abbrev due_in : Due → Home → Control
due_in U.one h = tail_due any_tail 0 h
due_in U.two h = tail_due any_tail 1 h
due_in U.three h = tail_due any_tail 2 h
due_in U.due_e0 h = tail_due after_e0 1 h
due_in U.due_ed h = tail_due after_ed 1 h
due_in U.due_f0 h = tail_due after_f0 2 h
due_in U.due_f4 h = tail_due after_f4 2 h

-- one rule, from lo to hi
module _ (lo hi : ℕ) (c : Control) (b : ℕ) where
  only_in : lo ≤ b → b ≤ hi → pick (range lo hi c ∷ []) b ≡ M.at c
  only_in l h = hit (range lo hi c) [] b (L.inside lo hi b l h)

  only_under : b < lo → pick (range lo hi c ∷ []) b ≡ dead
  unfolding pick
  only_under l = miss (range lo hi c) [] b (L.beneath lo hi b l)

  only_over : hi < b → pick (range lo hi c ∷ []) b ≡ dead
  unfolding pick
  only_over h = miss (range lo hi c) [] b (L.beyond lo hi b h)

due_under : (d : Due) (h : Home) (b : ℕ) → b < lowest d → step (M.at (due_in d h)) b ≡ dead
unfolding step
due_under U.one h b l = only_under 0x80 0xBF _ b l
due_under U.two h b l = only_under 0x80 0xBF _ b l
due_under U.three h b l = only_under 0x80 0xBF _ b l
due_under U.due_e0 h b l = only_under 0xA0 0xBF _ b l
due_under U.due_ed h b l = only_under 0x80 0x9F _ b l
due_under U.due_f0 h b l = only_under 0x90 0xBF _ b l
due_under U.due_f4 h b l = only_under 0x80 0x8F _ b l

due_over : (d : Due) (h : Home) (b : ℕ) → highest d < b → step (M.at (due_in d h)) b ≡ dead
unfolding step
due_over U.one h b l = only_over 0x80 0xBF _ b l
due_over U.two h b l = only_over 0x80 0xBF _ b l
due_over U.three h b l = only_over 0x80 0xBF _ b l
due_over U.due_e0 h b l = only_over 0xA0 0xBF _ b l
due_over U.due_ed h b l = only_over 0x80 0x9F _ b l
due_over U.due_f0 h b l = only_over 0x90 0xBF _ b l
due_over U.due_f4 h b l = only_over 0x80 0x8F _ b l

due_next : {d e : Due} → Next d e → (h : Home) (b : ℕ) → lowest d ≤ b → b ≤ highest d → step (M.at (due_in d h)) b ≡ M.at (due_in e h)
unfolding step
due_next U.three_two h b l u = only_in 0x80 0xBF _ b l u
due_next U.two_one h b l u = only_in 0x80 0xBF _ b l u
due_next U.e0_one h b l u = only_in 0xA0 0xBF _ b l u
due_next U.ed_one h b l u = only_in 0x80 0x9F _ b l u
due_next U.f0_two h b l u = only_in 0x90 0xBF _ b l u
due_next U.f4_two h b l u = only_in 0x80 0x8F _ b l u

not_final : (d : Due) (h : Home) → final (due_in d h) ≡ false
not_final U.one h = refl
not_final U.two h = refl
not_final U.three h = refl
not_final U.due_e0 h = refl
not_final U.due_ed h = refl
not_final U.due_f0 h = refl
not_final U.due_f4 h = refl

-- what is due is not there: the wrong byte is dead
rest_dead : (q : List ℕ) (h : Home) {d : Due} {i : ℕ} {ok : Bool} {r : ℕ} → RestAt q d i ok r → ok ≡ false → reading (due_in d h) i (drop i q) ≡ bad r
rest_dead q h (A.cut {d} {i} l) e = end_at (due_in d h) q i l (not_final d h)
rest_dead q h (A.under {d} {i} l u) e = stop_at (due_in d h) q i l (due_under d h (get_or q i 0) u)
rest_dead q h (A.over {d} {i} l u) e = stop_at (due_in d h) q i l (due_over d h (get_or q i 0) u)
rest_dead q h (A.last {i} l u v) e = absurd (subst T e tt)
rest_dead q h (A.next {d} {e = k} {i} n l u v r) e = bad_at (due_in d h) q i l (due_in k h) (due_next n h (get_or q i 0) u v) (rest_dead q h r e)

-- the control states from which a code point may begin
pub record WideFrom (c : Control) (h : Home) : Type 0 where
  pub first : {b : ℕ} {d : Due} → First b d → step (M.at c) b ≡ M.at (due_in d h)
  pub low : {b : ℕ} → 0x80 ≤ b → b < 0xC2 → step (M.at c) b ≡ dead
  pub high : {b : ℕ} → 0xF4 < b → step (M.at c) b ≡ dead

module _ (c : Control) (h : Home) (rs : List Rule) (e : rules c ≡ wide_rules h rs) where
  begin : {lo hi b : ℕ} → lo ≤ b → b ≤ hi → (k : Control) → landing lo hi (wide_rules h rs) ≡ some (M.at k) → step (M.at c) b ≡ M.at k
  begin l u k f = leads c l u (M.at k) (rw e f)

  first_leads : {b : ℕ} {d : Due} → First b d → step (M.at c) b ≡ M.at (due_in d h)
  unfolding landing
  first_leads (U.in_c2_df l u) = begin l u (tail_due any_tail 0 h) refl
  first_leads (U.in_e0 l u) = begin l u (tail_due after_e0 1 h) refl
  first_leads (U.in_e1_ec l u) = begin l u (tail_due any_tail 1 h) refl
  first_leads (U.in_ed l u) = begin l u (tail_due after_ed 1 h) refl
  first_leads (U.in_ee_ef l u) = begin l u (tail_due any_tail 1 h) refl
  first_leads (U.in_f0 l u) = begin l u (tail_due after_f0 2 h) refl
  first_leads (U.in_f1_f3 l u) = begin l u (tail_due any_tail 2 h) refl
  first_leads (U.in_f4 l u) = begin l u (tail_due after_f4 2 h) refl

  wide_from : landing 0x80 0xC1 (rules c) ≡ some dead → T (all_under 0xF5 (rules c)) → WideFrom c h
  unfolding step
  wide_from f t = record { first = first_leads; low = λ l u. leads c l (omega arith) dead f; high = λ l. dies_above l (rules c) t }

pub wide_dotted : (d : G.Depth) → WideFrom (M.dotted d) M.short
unfolding landing all_under
wide_dotted G.plain = wide_from (M.dotted G.plain) M.short _ refl refl tt
wide_dotted G.deep = wide_from (M.dotted G.deep) M.short _ refl refl tt

pub wide_short : WideFrom (inside M.short) M.short
unfolding landing all_under
wide_short = wide_from (inside M.short) M.short _ refl refl tt

pub wide_quoted : (x : G.Quote) → WideFrom (inside (M.quoted x)) (M.quoted x)
unfolding landing all_under
wide_quoted G.single = wide_from (inside (M.quoted G.single)) (M.quoted G.single) _ refl refl tt
wide_quoted G.double = wide_from (inside (M.quoted G.double)) (M.quoted G.double) _ refl refl tt

-- where no code point stands at i the dead byte is at r
pub wide_dead : (q : List ℕ) {c : Control} {h : Home} {i : ℕ} {ok : Bool} {r : ℕ} → WideFrom c h → i < length q → 0x80 ≤ get_or q i 0 →
    ReadsAt q i ok r → ok ≡ false → reading c i (drop i q) ≡ bad r
wide_dead q w l u (A.cut g) e = absurd (omega arith)
wide_dead q {c} {h} {i} w l u (A.too_low g v) e = stop_at c q i l (w.low u v)
wide_dead q {c} {h} {i} w l u (A.too_high g v) e = stop_at c q i l (w.high v)
wide_dead q {c} {h} {i} w l u (A.first {d} g f r) e = bad_at c q i l (due_in d h) (w.first f) (rest_dead q h r e)

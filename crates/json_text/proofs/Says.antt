-- The verdict by computing is the one that the grounds say, and no other. Over the bytes before a place the machine in the room and the
-- machine without a limit run side by side; where they part, a bracket has no room. Assumes nothing.
use Rattle.std.specs.Prelude.{◌≡◌, refl, List, [], ◌∷◌, Bool, true, false, ◌↔◌, ℕ, suc, ◌≤◌, ◌<◌, ◌-◌, T, leb, take, drop, length, get_or}
use Rattle.std.proofs.Common.{ap, sym, subst, ◌∙◌, arith, length-drop, drop-cons, take_all, leb-true, leb-false}
use Rattle.encoding.specs.Prefix.{Alive, DeadPlace}
use Rattle.encoding.specs.PrefixLaws.{alive_text, dead_place_at, dead_place_unique}
use Rattle.encoding.specs.Verdict as verdict
use Rattle.encoding.specs.Verdict.{Verdict, refused}
use Rattle.json_text.specs.Grammar.{JsonText, Nested}
use Rattle.json_text.specs.Room.{left, endless}
use Rattle.json_text.specs.Machine.{value_due, State, dead, at, accept}
use Rattle.json_text.proofs.Sound.{sound}
use Rattle.json_text.proofs.Complete.{complete}
use Rattle.json_text.proofs.Beyond.{Along, along_start, along_nested, along_text, Goes, on, opens, dies, goes, none_opens, opens_early, opens_once}
use Rattle.json_text.specs.Check.{ended, blame, check_from}
use Rattle.json_text.specs.Verdict.{max_depth, max_bytes, text_verdict, record_verdict, RecordSays, taken, long, wrong, deep}

pub nested_text : (n : ℕ) (s : List ℕ) → Nested n s → JsonText s
nested_text n s j = record { tree = j.tree; written = j.written }

-- the verdict says what holds, at each place that the check comes to
module _ (q : List ℕ) (short : length q ≤ max_bytes) (i : ℕ) (a : Along max_depth q i) (h : i ≤ length q) where
  says_wrong : (JsonText q → ⊥) → (i < length q → Alive JsonText (take (suc i) q) → ⊥) → RecordSays q (refused 5 i)
  says_wrong f d = wrong i short f (dead_place_at JsonText q i h (along_text a) d) (none_opens (along_nested a))

  -- no byte is left
  says_end : drop i q ≡ [] → RecordSays q (ended (accept (at a.control a.stack a.room)) i)
  says_end n = by (accept (at a.control a.stack a.room)) refl
    where
      over : length q ≤ i
      over = let z : length q - i ≡ 0 = sym (length-drop i q) ∙ ap length n in omega arith

      all : take i q ≡ q
      all = take_all i q over

      by : (x : Bool) → accept (at a.control a.stack a.room) ≡ x → RecordSays q (ended x i)
      by true e = taken short (sound (left max_depth) q (ap accept (rw all at a.roomy) ∙ e))
      by false e =
          says_wrong
          (λ j. let z : ◌≡◌ {A = Bool} true false = sym (complete endless q j) ∙ ap accept (rw all at a.free) ∙ e in subst T z tt)
          (λ l. absurd (omega (arith, over)))

  -- the byte at place i
  says_byte : (s : List ℕ) (st st' : State) → Goes max_depth q i st st' →
      ((b : Along max_depth q (suc i)) → RecordSays q (check_from b.control b.stack b.room (suc i) s)) →
      RecordSays q (elim st as (λ _. Verdict) [ dead ↦ blame st' i | at c k ρ ↦ check_from c k ρ (suc i) s ])
  says_byte s _ _ (on b) again = again b
  says_byte s _ _ (opens o) again = deep i short o
  says_byte s _ _ (dies d) again = says_wrong (λ j. d (alive_text JsonText q (suc i) j)) (λ l. d)

says_from : (q : List ℕ) (short : length q ≤ max_bytes) (s : List ℕ) (i : ℕ) (a : Along max_depth q i) → i ≤ length q → drop i q ≡ s →
    RecordSays q (check_from a.control a.stack a.room i s)
unfolding check_from
says_from q short [] i a h n = says_end q short i a h n
says_from q short (b ∷ s) i a h n =
    says_byte q short i a h s _ _ (rw byte at (goes a there)) (λ a'. says_from q short s (suc i) a' there rest)
  where
    there : i < length q
    there = let z : length q - i ≡ suc (length s) = sym (length-drop i q) ∙ ap length n in omega arith

    first : b ∷ s ≡ get_or q i 0 ∷ drop (suc i) q
    first = sym n ∙ drop-cons q i 0 there

    byte : get_or q i 0 ≡ b
    byte = cc first

    rest : drop (suc i) q ≡ s
    rest = cc first

-- what the verdict answers is said of the record
pub record_says : (s : List ℕ) → RecordSays s (record_verdict s)
unfolding record_verdict text_verdict along_start
record_says s = by (leb (length s) max_bytes) refl
  where
    by : (x : Bool) → leb (length s) max_bytes ≡ x →
        RecordSays s (elim x as (λ _. Verdict) [ true ↦ check_from value_due [] (left max_depth) 0 s | false ↦ refused 4 max_bytes ])
    by true e = says_from s (leb-true (length s) max_bytes e) s 0 (along_start max_depth s) (omega arith) refl
    by false e = long (leb-false (length s) max_bytes e)

-- no two verdicts are said of one record

says_same : (s : List ℕ) (v w : Verdict) → RecordSays s v → RecordSays s w → v ≡ w
says_same s _ _ (taken l j) (taken l' j') = refl
says_same s _ _ (taken l j) (long l') = absurd (omega arith)
says_same s _ _ (taken l j) (wrong p l' f d a) = absurd (f (nested_text max_depth s j))
says_same s _ _ (taken l j) (deep p l' o) = absurd (o.beyond (alive_text (Nested max_depth) s (suc p) j))
says_same s _ _ (long l) (taken l' j') = absurd (omega arith)
says_same s _ _ (long l) (long l') = refl
says_same s _ _ (long l) (wrong p l' f d a) = absurd (omega arith)
says_same s _ _ (long l) (deep p l' o) = absurd (omega arith)
says_same s _ _ (wrong p l f d a) (taken l' j') = absurd (f (nested_text max_depth s j'))
says_same s _ _ (wrong p l f d a) (long l') = absurd (omega arith)
says_same s _ _ (wrong p l f d a) (wrong r l' f' d' a') = ap (refused 5) (dead_place_unique JsonText s d d')
says_same s _ _ (wrong p l f d a) (deep r l' o) = absurd (a r (opens_early o d) o)
says_same s _ _ (deep p l o) (taken l' j') = absurd (o.beyond (alive_text (Nested max_depth) s (suc p) j'))
says_same s _ _ (deep p l o) (long l') = absurd (omega arith)
says_same s _ _ (deep p l o) (wrong r l' f d a) = absurd (a p (opens_early o d) o)
says_same s _ _ (deep p l o) (deep r l' o') = ap (refused 6) (opens_once o o')

-- what is said of the record is what the verdict answers
pub record_says_only : (s : List ℕ) (v : Verdict) → RecordSays s v → v ≡ record_verdict s
record_says_only s v h = says_same s v (record_verdict s) h (record_says s)

-- a record is taken exactly if it is a JSON text within both limits (demand 2)
pub record_taken : (s : List ℕ) → (record_verdict s ≡ verdict.taken) ↔ ((length s ≤ max_bytes) × Nested max_depth s)
record_taken s =
    (λ e. by verdict.taken (subst (RecordSays s) e (record_says s)) refl, λ t. sym (record_says_only s verdict.taken (taken t.0 t.1)))
  where
    by : (v : Verdict) → RecordSays s v → v.ground ≡ 0 → (length s ≤ max_bytes) × Nested max_depth s
    by _ (taken l j) e = (l, j)
    by _ (long l) e = absurd (omega arith)
    by _ (wrong p l f d a) e = absurd (omega arith)
    by _ (deep p l o) e = absurd (omega arith)

-- the place of ground 5 is the dead byte of the record
pub record_wrong : (s : List ℕ) (p : ℕ) → record_verdict s ≡ refused 5 p → DeadPlace JsonText s p
record_wrong s p e = by (refused 5 p) (subst (RecordSays s) e (record_says s)) refl refl
  where
    by : (v : Verdict) → RecordSays s v → v.ground ≡ 5 → v.place ≡ p → DeadPlace JsonText s p
    by _ (taken l j) g q = absurd (omega arith)
    by _ (long l) g q = absurd (omega arith)
    by _ (wrong r l f d a) g q = subst (DeadPlace JsonText s) q d
    by _ (deep r l o) g q = absurd (omega arith)

-- The bytes of an escape that are no digits: the backslash and the `u` of a low half; and the one behind an escape's backslash, which says
-- what the escape is. Assumes nothing.
use mathlib.Core.Path.{◌≡◌, refl, ap, sym, ◌∙◌}
use mathlib.Core.Logic.{inl, inr}
use mathlib.Core.List.{List, [], ◌∷◌}
use mathlib.Core.Bool.{Bool, true, false, false≢true, true≢false}
use Prim.Native.Nat.{ℕ, ◌+◌, ◌≤◌, ◌<◌}
use native.Mathlib.Omega.{arith}
use lib.ListN.{length, get_or, drop}
use types.Run.{OneOf}
use Rattle.std.specs.Prelude.{Ok}
use Rattle.query.specs.Escapes as E
use Rattle.query.specs.Escapes.{Escape, escape_byte}
use Rattle.query.specs.Grammar as G
use Rattle.query.specs.Grammar.{Quote, quote_byte, put_char}
use Rattle.query.specs.Machine as M
use Rattle.query.specs.Machine.{Due, in_escape, kind, low_backslash, low_u, low_d, dead, only, rules, step}
use Rattle.query.proofs.At.{byte_is, end_at, stop_at, bad_at}
use Rattle.query_escapes.specs.Scans.{ByteAt, Escaped, Part, BehindU}
use Rattle.query_escapes.specs.ScansLaws.{stayed, went_on, passed_on}
use Rattle.query_escapes.proofs.Digits.{end, ◌&◌, no_rule, Leads}

-- of a low half

stop_only : (d d' : Due) (n : ℕ) {b : ℕ} → ((x : Quote) → rules (in_escape d x) ≡ only n (in_escape d' x) ∷ []) → (b ≡ n → ⊥) → (x : Quote) →
    step (M.at (in_escape d x)) b ≡ dead
unfolding step
stop_only d d' n {b} r f x = rw (r x) (no_rule (only n (in_escape d' x) ∷ []) b ((λ l h. f (omega arith)) & end))

pub stop_backslash : {b : ℕ} → (b ≡ 0x5C → ⊥) → (x : Quote) → step (M.at (in_escape low_backslash x)) b ≡ dead
stop_backslash = stop_only low_backslash low_u 0x5C (λ x. refl)

pub stop_u : {b : ℕ} → (b ≡ 0x75 → ⊥) → (x : Quote) → step (M.at (in_escape low_u x)) b ≡ dead
stop_u = stop_only low_u low_d 0x75 (λ x. refl)

pub on_backslash : {b : ℕ} → b ≡ 0x5C → Leads {T = Unit {0}} (λ y. 0x5C) low_backslash (in_escape low_u) b
unfolding step
on_backslash e = record { tree = tt; is = sym e; on = λ x. rw e refl }

pub on_u : {b : ℕ} → b ≡ 0x75 → Leads {T = Unit {0}} (λ y. 0x75) low_u (in_escape low_d) b
unfolding step
on_u e = record { tree = tt; is = sym e; on = λ x. rw e refl }

-- behind the backslash

behind_backslash : (q : List ℕ) (i : ℕ) → i < length q → {b : ℕ} → get_or q i 0 ≡ b → 0x5C ∷ b ∷ drop (i + 1) q ≡ 0x5C ∷ drop i q
behind_backslash q i h e = sym (ap (λ (s : List ℕ). 0x5C ∷ s) (byte_is q i h e))

abbrev letters : List ℕ
letters = 0x2F ∷ 0x5C ∷ 0x62 ∷ 0x66 ∷ 0x6E ∷ 0x72 ∷ 0x74 ∷ []

a_letter : {b : ℕ} → OneOf letters b → (e : Escape) × (b ≡ escape_byte e)
a_letter (inl e) = (E.slash, e)
a_letter (inr (inl e)) = (E.backslash, e)
a_letter (inr (inr (inl e))) = (E.backspace, e)
a_letter (inr (inr (inr (inl e)))) = (E.form, e)
a_letter (inr (inr (inr (inr (inl e))))) = (E.line, e)
a_letter (inr (inr (inr (inr (inr (inl e)))))) = (E.carriage, e)
a_letter (inr (inr (inr (inr (inr (inr e)))))) = (E.tabulator, e)

stop_kind : {b : ℕ} → (OneOf letters b → ⊥) → (b ≡ 0x75 → ⊥) → (x : Quote) → (b ≡ quote_byte x → ⊥) → step (M.at (in_escape kind x)) b ≡ dead
unfolding step
stop_kind {b} f g x h =
    no_rule (rules (in_escape kind x)) b
    ((λ l m. f (inr (inr (inl (omega arith))))) &
    (λ l m. f (inr (inr (inr (inl (omega arith)))))) &
    (λ l m. f (inr (inr (inr (inr (inl (omega arith))))))) &
    (λ l m. f (inr (inr (inr (inr (inr (inl (omega arith)))))))) &
    (λ l m. f (inr (inr (inr (inr (inr (inr (omega arith)))))))) &
    (λ l m. f (inl (omega arith))) &
    (λ l m. f (inr (inl (omega arith)))) &
    (λ l m. h (omega arith)) &
    (λ l m. g (omega arith)) & end)

leads_u : (x : Quote) {b : ℕ} → b ≡ 0x75 → step (M.at (in_escape kind x)) b ≡ M.at (in_escape M.first x)
unfolding step
leads_u G.single e = rw e refl
leads_u G.double e = rw e refl

module _ {q : List ℕ} {quote i : ℕ} where
  pub escaped_end : i ≤ length q → length q ≤ i → Escaped q quote i false i
  escaped_end h l = record {
    moved = stayed h;
    stands = λ e. absurd (false≢true e);
    dead = λ e x f. end_at (in_escape kind x) q i l refl;
  }

  -- by the byte there
  module _ {b : ℕ} (here : ByteAt q i (Ok b)) where
    pub escaped_own : b ≡ quote → Escaped q quote i true (i + 1)
    unfolding put_char
    escaped_own e = record {
      moved = went_on here.0;
      stands = λ t x f. (G.own, behind_backslash q i here.0 (sym here.1 ∙ e ∙ f));
      dead = λ t. absurd (true≢false t);
    }

    pub escaped_letter : OneOf letters b → Escaped q quote i true (i + 1)
    unfolding put_char
    escaped_letter o =
        let (y, e) = a_letter o in
        record {
          moved = went_on here.0;
          stands = λ t x f. (G.escaped y, behind_backslash q i here.0 (sym here.1 ∙ e));
          dead = λ t. absurd (true≢false t);
        }

    pub escaped_unicode : {ok : Bool} {r : ℕ} → b ≡ 0x75 → Part BehindU M.first q (i + 1) ok r → Escaped q quote i ok r
    unfolding put_char
    escaped_unicode e p =
        let w : get_or q i 0 ≡ 0x75 = sym here.1 ∙ e in
        record {
          moved = passed_on p.moved;
          stands = λ t x f. let (y, g) = p.stands t in (G.unicode y, ap (λ (s : List ℕ). 0x5C ∷ 0x75 ∷ s) g ∙ behind_backslash q i here.0 w);
          dead = λ t x f. bad_at (in_escape kind x) q i here.0 (in_escape M.first x) (leads_u x w) (p.dead t x);
        }

    pub escaped_none : (OneOf letters b → ⊥) → (b ≡ 0x75 → ⊥) → (b ≡ quote → ⊥) → Escaped q quote i false i
    escaped_none f g k = record {
      moved = stayed (omega (arith, here.0));
      stands = λ e. absurd (false≢true e);
      dead = λ e x z. stop_at (in_escape kind x) q i here.0 (rw (← here.1) (stop_kind f g x (λ y. k (y ∙ sym z))));
    }

-- What is read in a turn does to the verdict what the record grammar's machine does from there on. Assumes nothing.
use Rattle.std.specs.Prelude.{◌≡◌, refl, List, [], ◌∷◌, Bool, true, false, ℕ, suc, ◌+◌, ◌-◌, ◌≤◌, ◌<◌, length, get_or}
use Rattle.std.proofs.Common.{ap, ◌∙◌, sym, arith}
use Rattle.std.proofs.Math.Option.{none}
use Rattle.encoding.specs.declared.refusals.Ground.TheVariants.{RecordWrong, TooDeep}
use Rattle.swar.specs.Kinds.{blank}
use Rattle.swar.specs.Run.{Run}
use Rattle.json_text.specs.Grammar.{object, opening, closing}
use Rattle.json_text.specs.Room.{left, endless, wider}
use Rattle.json_text.specs.Machine.{Ctl, item, colon, after, value_due, in_string, closed, Stack, one, closes, step}
use Rattle.json_text.specs.MachineLaws.{past, nowhere, step_by, item_close, after_comma, after_close}
use Rattle.json_text.specs.CheckLaws.{here, go_at, die_at, deep_at, enter_at}
use Rattle.json_text.specs.Led.{Led, outcome, led_here, led_go, led_die, led_end, led_on}
use Rattle.json_text.specs.Verdict.{max_depth}
use Rattle.scalars.specs.Among.{AmongAt, byte, nothing, other, no_more, among_within, among_byte, missed}
use Rattle.scalars.specs.Blanks.{at_item, led_blanks, past_blanks}
use Rattle.scalars.specs.Scalars.{Scalar}
use Rattle.characters.specs.Strings.{LedBoth}
use Rattle.validate.specs.declared.nest.Kind.{Kind}
use Rattle.validate.specs.declared.turns.Due.{Due}
use Rattle.validate.specs.declared.turns.Due.TheVariants.{Value, Name, After}
use Rattle.validate.specs.Nesting.{kind_of, room_in}
use Rattle.validate.specs.Turns.{due_of, ItemDue, standing, Ready, Taken, Refused}
use Rattle.validate.proofs.Opened.{led_opened}

-- what stays in the containers
module _ (k : Stack) (from : Due) {s : List ℕ} {i r : ℕ} where
  pub led_taken : {due : Due} → Led s i (due_of from) (due_of due) true r → i < r → Taken (standing s from k i) s i k (record { at = r; due = due })
  unfolding standing outcome
  led_taken p m = record { forward = m; within = p.within; same = p.same k (room_in k) }

  pub led_refused : {c : Ctl} → Led s i (due_of from) c false r → Refused (standing s from k i) s (record { ground = RecordWrong; place = r })
  unfolding standing outcome
  led_refused p = record { within = p.within; same = p.same k (room_in k) }

-- a value up to its end
pub value_taken : {s : List ℕ} {i r : ℕ} (k : Stack) → Scalar s i true r → Taken (standing s Value k i) s i k (record { at = r; due = After })
value_taken k x = led_taken k Value x.led (x.moved refl)

pub value_refused : {s : List ℕ} {i r : ℕ} (k : Stack) → Scalar s i false r → Refused (standing s Value k i) s (record { ground = RecordWrong; place = r })
value_refused k x = led_refused k Value x.led

-- a string, as a value and as a name
module _ {s : List ℕ} {i : ℕ} (q : Ready s i) where
  module _ (e : get_or s i 0 ≡ 0x22) {ok : Bool} {r : ℕ} (p : LedBoth s (i + 1) in_string closed ok r) where
    pub string_value : Scalar s i ok r
    unfolding step
    string_value =
        record {
          moved = λ z. omega (arith, (p true).from);
          led = led_on (led_go (led_here s i value_due (omega (arith, q.inside))) (in_string false) q.inside (λ k ρ. rw e refl)) (p false);
        }

    name_led : Led s i (due_of Name) colon ok r
    unfolding step
    name_led = led_on (led_go (led_here s i (due_of Name) (omega (arith, q.inside))) (in_string true) q.inside (λ k ρ. rw e refl)) (p true)

  pub name_missing : (get_or s i 0 ≡ 0x22 → ⊥) → (k : Stack) → Refused (standing s Name k i) s (record { ground = RecordWrong; place = i })
  name_missing n k =
      led_refused k Name
      (led_die (led_here s i (due_of Name) (omega (arith, q.inside))) (due_of Name) q.inside
      (λ k. step_by (item object false) k endless {o = none}
      (past_blanks (item object false) (one 0x22 (in_string true) ∷ []) q.solid (past (missed n) nowhere))))

  module _ (e : get_or s i 0 ≡ 0x22) where
    pub name_wrong : {r : ℕ} → LedBoth s (i + 1) in_string closed false r → (k : Stack) → Refused (standing s Name k i) s (record { ground = RecordWrong; place = r })
    name_wrong p k = led_refused k Name (name_led e p)

    module _ {end : ℕ} (p : LedBoth s (i + 1) in_string closed true end) {r : ℕ} where
      pub colon_wrong : Led s end colon value_due false r → (k : Stack) → Refused (standing s Name k i) s (record { ground = RecordWrong; place = r })
      colon_wrong c k = led_refused k Name (led_on (name_led e p) c)

      pub name_taken : Led s end colon value_due true r → (k : Stack) → Taken (standing s Name k i) s i k (record { at = r; due = Value })
      name_taken c k = led_taken k Name (led_on (name_led e p) c) (omega (arith, (p true).from, c.from))

-- the colon of a name
module _ {s : List ℕ} {i to : ℕ} (p : Led s i colon colon true to) where
  pub colon_there : AmongAt (0x3A ∷ []) s to true → Led s i colon value_due true (to + 1)
  unfolding step
  colon_there x = let n = among_byte x in led_go p value_due (among_within x) (λ k ρ. rw n refl)

  pub colon_missing : AmongAt (0x3A ∷ []) s to false → (to < length s → blank (get_or s to 0) ≡ false) → Led s i colon value_due false to
  colon_missing (byte l (other n no_more)) stop =
      led_die p value_due l
      (λ k. step_by colon k endless {o = none} (past_blanks colon (one 0x3A value_due ∷ []) (stop l) (past (missed n) nowhere)))
  colon_missing (nothing l) stop = led_end p value_due l refl

-- a container is opened
module _ {s : List ℕ} {i : ℕ} (k : Stack) (x : Kind) (q : Ready s i) (o : get_or s i 0 ≡ opening (kind_of x)) where
  -- no room for it: ground 6
  pub open_deep : max_depth ≤ length k → Refused (standing s Value k i) s (record { ground = TooDeep; place = i })
  unfolding standing
  open_deep h =
      let e : max_depth - length k ≡ 0 = omega arith in
      record { within = omega (arith, q.inside); same = rw e (deep_at s i false k (kind_of x) q.inside o) }

  module _ (h : length k < max_depth) {to : ℕ} (g : Run blank s (i + 1) to) where
    abbrev inner : Stack
    inner = kind_of x ∷ k

    entered_to : standing s Value k i ≡ here s (item (kind_of x) true) inner (room_in inner) to
    unfolding standing outcome
    entered_to =
        let room : max_depth - length k ≡ suc (max_depth - length inner) = omega arith in
        let blanks = led_blanks (at_item (kind_of x) true) (led_here s (i + 1) (item (kind_of x) true) (omega (arith, q.inside))) g.passed in
        ap (λ (n : ℕ). here s value_due k (left n) i) room
        ∙ enter_at s i false k (kind_of x) q.inside o (max_depth - length inner)
        ∙ blanks.same inner (room_in inner)

    module _ {close : ℕ} (c : close ≡ closing (kind_of x)) where
      -- it is empty
      pub open_empty : AmongAt (close ∷ []) s to true → Taken (standing s Value k i) s i k (record { at = to + 1; due = After })
      unfolding standing
      open_empty y =
          let l : to < length s = among_within y in
          let e : get_or s to 0 ≡ closing (kind_of x) = among_byte y ∙ c in
          let room : suc (max_depth - length inner) ≡ max_depth - length k = omega arith in
          record {
            forward = omega (arith, g.passed.forward);
            within = omega arith;
            same =
                entered_to
                ∙ go_at s to (item (kind_of x) true) inner (room_in inner) after k (wider (room_in inner)) l (rw e (item_close (kind_of x) inner (room_in inner)))
                ∙ ap (λ (n : ℕ). here s after k (left n) (to + 1)) room;
          }

      -- its first item is due
      pub open_item : AmongAt (close ∷ []) s to false → {due : Due} → ItemDue x due → Taken (standing s Value k i) s i inner (record { at = to; due = due })
      unfolding standing outcome
      open_item y d =
          record {
            forward = omega (arith, g.passed.forward);
            within = g.passed.within;
            same =
                entered_to
                ∙ (led_opened (kind_of x) c g.passed.within g.stop y).same inner (room_in inner)
                ∙ ap (λ (d : Ctl). here s d inner (room_in inner) to) (sym d);
          }

-- what follows a value
module _ {s : List ℕ} {i : ℕ} {k : Stack} (q : Ready s i) where
  -- the outermost value
  pub after_all : k ≡ [] → Refused (standing s After k i) s (record { ground = RecordWrong; place = i })
  unfolding standing
  after_all e =
      rw e record {
        within = omega (arith, q.inside);
        same = die_at s i after [] (room_in []) q.inside (step_by after [] endless {o = none} (past_blanks after [] q.solid nowhere));
      }

  module _ (x : Kind) {rest : Stack} (e : k ≡ kind_of x ∷ rest) where
    pub comma_turn : get_or s i 0 ≡ 0x2C → {due : Due} → ItemDue x due → Taken (standing s After k i) s i k (record { at = i + 1; due = due })
    unfolding standing
    comma_turn b {due} d =
        rw e record {
          forward = omega arith;
          within = omega (arith, q.inside);
          same =
              go_at s i after (kind_of x ∷ rest) (room_in (kind_of x ∷ rest)) (due_of due) (kind_of x ∷ rest) (room_in (kind_of x ∷ rest)) q.inside
              (rw (b, d) (after_comma (kind_of x) rest (room_in (kind_of x ∷ rest))));
        }

    pub close_turn : length k ≤ max_depth → get_or s i 0 ≡ closing (kind_of x) → Taken (standing s After k i) s i rest (record { at = i + 1; due = After })
    unfolding standing
    close_turn h b =
        let long : length k ≡ suc (length rest) = ap length e in
        let room : suc (max_depth - suc (length rest)) ≡ max_depth - length rest = omega arith in
        rw e record {
          forward = omega arith;
          within = omega (arith, q.inside);
          same =
              go_at s i after (kind_of x ∷ rest) (room_in (kind_of x ∷ rest)) after rest (wider (room_in (kind_of x ∷ rest))) q.inside
              (rw b (after_close (kind_of x) rest (room_in (kind_of x ∷ rest))))
              ∙ ap (λ (n : ℕ). here s after rest (left n) (i + 1)) room;
        }

    pub wrong_turn : (get_or s i 0 ≡ 0x2C → ⊥) → (get_or s i 0 ≡ closing (kind_of x) → ⊥) → Refused (standing s After k i) s (record { ground = RecordWrong; place = i })
    unfolding standing
    wrong_turn m n =
        rw e record {
          within = omega (arith, q.inside);
          same =
              die_at s i after (kind_of x ∷ rest) (room_in (kind_of x ∷ rest)) q.inside
              (step_by after (kind_of x ∷ rest) endless {o = none}
              (past_blanks after (one 0x2C (item (kind_of x) false) ∷ closes (kind_of x) ∷ []) q.solid (past (missed m) (past (missed n) nowhere))));
        }

-- The brackets of a value balance, and those of a container's items close it with their last byte: by induction on the tree. Assumes nothing.
use Rattle.std.specs.Prelude.{◌≡◌, refl, Bool, not, ◌&&◌, ◌||◌, List, [], ◌∷◌, ℕ, suc, ◌+◌, eqb, length, drop}
use Rattle.std.proofs.Common.{sym, ap, ap₂, subst, ◌∙◌, zero-add, arith}
use Rattle.std.proofs.Math.Bool.{true, false}
use Rattle.blocks.specs.Words.{in_string, opens_at, closes_at}
use Rattle.classifier.specs.Classes.{byte_at}
use Rattle.blocks.specs.Laws.{Carried, carried_string}
use Rattle.brackets.specs.DepthLaws.{depth_none_at, depth_quiet_to, depth_more, depth_less}
use Rattle.encoding.specs.Bytes.{Blanks, put_blanks}
use Rattle.json_text.specs.Grammar as G
use Rattle.json_text.specs.Grammar.{Kind, Key, Value, Items, More, put_key, put_value, put_items, put_more}
use Rattle.json_text.specs.Append.{length_items}
use Rattle.select.specs.Nodes.{size, key_size}
use Rattle.scan.specs.Places.{head_of, past_value}
use Rattle.strings.specs.Strings.{Quotes}
use Rattle.strings.specs.Parts.{byte_at_lem, Flat}
use Rattle.strings.specs.Texts.{crossed_blanks, crossed_comma, crossed_key, crossed_literal, crossed_number, crossed_quoted, opening_after, closing_after, container_size, empty_size, end_size, items_size, more_size}
use Rattle.strings.specs.StringsAre.{value_strings_lem}
use Rattle.strings.specs.WordTwo.{carried_start}
use Rattle.leap.specs.Brackets.{depth_in, Closed}

abbrev is_opening : ℕ → Bool
is_opening b = eqb b 0x5B || eqb b 0x7B

abbrev is_closing : ℕ → Bool
is_closing b = eqb b 0x5D || eqb b 0x7D

opening_opens : (k : Kind) → is_opening (G.opening k) ≡ true
opening_opens G.array = refl
opening_opens G.object = refl

closing_opens : (k : Kind) → is_opening (G.closing k) ≡ false
closing_opens G.array = refl
closing_opens G.object = refl

closing_closes : (k : Kind) → is_closing (G.closing k) ≡ true
closing_closes G.array = refl
closing_closes G.object = refl

module _ (inside odd : Bool) (s : List ℕ) (m : ℕ) where
  -- a part without brackets
  flat_depth : {o a e : ℕ} {qs : List Quotes} → Flat inside odd s o a e qs → depth_in inside odd s m e ≡ depth_in inside odd s m a
  unfolding depth_in
  flat_depth {o} {a} {e} f =
      depth_quiet_to (opens_at inside odd s) (closes_at inside odd s) m a e f.strings.onward (λ j h l. (f.no_opening j h l, f.no_closing j h l))

  -- a bracket outside strings
  outside : {a : ℕ} (test : ℕ → Bool) (b : ℕ) (x : Bool) → byte_at s a ≡ b → test b ≡ x → Carried inside odd s (suc a) false false
      → (test (byte_at s a) && not (in_string inside odd s a)) ≡ (x && true)
  outside {a} test b x e t c = ap₂ (λ (y z : Bool). y && not z) (ap test e ∙ t) (carried_string inside odd s a false false c)

  opens : {a : ℕ} (k : Kind) (n : ℕ) → byte_at s a ≡ G.opening k → Carried inside odd s (suc a) false false → depth_in inside odd s m a ≡ suc n
      → depth_in inside odd s m (suc a) ≡ suc (suc n)
  unfolding depth_in opens_at closes_at
  opens {a} k n e c h =
      depth_more (opens_at inside odd s) (closes_at inside odd s) m a n (outside is_opening (G.opening k) true e (opening_opens k) c) h

  closes : {a : ℕ} (k : Kind) (n : ℕ) → byte_at s a ≡ G.closing k → Carried inside odd s (suc a) false false → depth_in inside odd s m a ≡ suc n
      → depth_in inside odd s m (suc a) ≡ n
  unfolding depth_in opens_at closes_at
  closes {a} k n e c h =
      depth_less (opens_at inside odd s) (closes_at inside odd s) m a n
      (outside is_opening (G.closing k) false e (closing_opens k) c) (outside is_closing (G.closing k) true e (closing_closes k) c) h

  -- the byte before place e closes a bracket, and n stay open
  record Shut (e n : ℕ) : Type 0 where
    pub last : ℕ
    pub next : suc last ≡ e
    pub still_open : depth_in inside odd s m last ≡ suc n
    pub shut : depth_in inside odd s m e ≡ n

  abbrev ValueBalanced : Value → Type 0
  ValueBalanced v = (rest : List ℕ) (a n : ℕ) → drop a s ≡ put_value v rest → Carried inside odd s a false false
      → depth_in inside odd s m a ≡ suc n → depth_in inside odd s m (a + size v) ≡ suc n

  abbrev ItemsShut : {k : Kind} → Items k → Type 0
  ItemsShut is = (rest : List ℕ) (a n : ℕ) → drop a s ≡ put_items is rest → Carried inside odd s a false false
      → depth_in inside odd s m a ≡ suc n → Shut (a + length (put_items is [])) n

  abbrev MoreShut : {k : Kind} → More k → Type 0
  MoreShut r = (rest : List ℕ) (a n : ℕ) → drop a s ≡ put_more r rest → Carried inside odd s a false false
      → depth_in inside odd s m a ≡ suc n → Shut (a + length (put_more r [])) n

  shut_at : {e f n : ℕ} → e ≡ f → Shut e n → Shut f n
  shut_at {e} {f} {n} z h = subst (λ (x : ℕ). Shut x n) z h

  container_balanced : {k : Kind} (is : Items k) → ItemsShut is → ValueBalanced (G.container k is)
  unfolding put_value
  container_balanced {k} is inner rest a n e c h =
      let t = head_of s a (G.opening k) (put_items is rest) e in
      let d = opening_after k (byte_at_lem t) c in
      (shut_at (container_size is a) (inner rest (suc a) (suc n) t.rest_is d (opens k n (byte_at_lem t) d h))).shut

  close_shut : (k : Kind) (w : Blanks) (rest : List ℕ) (a n : ℕ) → drop a s ≡ put_blanks w (G.closing k ∷ rest) → Carried inside odd s a false false
      → depth_in inside odd s m a ≡ suc n → Shut (suc (a + length w)) n
  close_shut k w rest a n e c h =
      let b = crossed_blanks {o = 0} w (G.closing k ∷ rest) a e c in
      let t = head_of s (a + length w) (G.closing k) rest b.here in
      let o : depth_in inside odd s m (a + length w) ≡ suc n = flat_depth b.flat ∙ h in
      record {
        last = a + length w;
        next = refl;
        still_open = o;
        shut = closes k n (byte_at_lem t) (closing_after k (byte_at_lem t) b.flat.strings.after) o;
      }

  item_shut : {k : Kind} (key : Key k) (v : Value) (r : More k) → ValueBalanced v → MoreShut r
      → (rest : List ℕ) (a n : ℕ) → drop a s ≡ put_key k key (put_value v (put_more r rest)) → Carried inside odd s a false false
      → depth_in inside odd s m a ≡ suc n → Shut (a + key_size k key + size v + length (put_more r [])) n
  item_shut {k} key v r inner after rest a n e c h =
      let f = crossed_key {o = 0} k key (put_value v (put_more r rest)) a refl e c in
      let b : ℕ = a + key_size k key in
      after rest (b + size v) n (past_value s b v (put_more r rest) f.here)
      (value_strings_lem inside odd s 0 v (put_more r rest) b (0 + b) refl f.here f.flat.strings.after).after
      (inner (put_more r rest) b n f.here f.flat.strings.after (flat_depth f.flat ∙ h))

  mutual
    unfolding put_value put_items put_more

    value_balanced : (v : Value) → ValueBalanced v
    value_balanced (G.literal l) = λ rest a n e c h. flat_depth (crossed_literal {o = 0} l rest a e c).flat ∙ h
    value_balanced (G.number g i f x) = λ rest a n e c h. flat_depth (crossed_number {o = 0} g i f x rest a e c).flat ∙ h
    value_balanced (G.string cs) = λ rest a n e c h. flat_depth (crossed_quoted {o = 0} cs rest a refl e c).flat ∙ h
    value_balanced (G.container k is) = container_balanced is (items_shut is)

    items_shut : {k : Kind} (is : Items k) → ItemsShut is
    items_shut {k} (G.empty w) = λ rest a n e c h. shut_at (empty_size k w a) (close_shut k w rest a n e c h)
    items_shut {k} (G.items w key v r) = λ rest a n e c h.
        let b = crossed_blanks {o = 0} w (put_key k key (put_value v (put_more r rest))) a e c in
        shut_at (items_size w key v r a)
        (item_shut key v r (value_balanced v) (more_shut r) rest (a + length w) n b.here b.flat.strings.after (flat_depth b.flat ∙ h))

    more_shut : {k : Kind} (r : More k) → MoreShut r
    more_shut {k} (G.end w) = λ rest a n e c h. shut_at (end_size k w a) (close_shut k w rest a n e c h)
    more_shut {k} (G.more w w' key v r) = λ rest a n e c h.
        let b = crossed_comma {o = 0} w w' (put_key k key (put_value v (put_more r rest))) a e c in
        shut_at (more_size w w' key v r a)
        (item_shut key v r (value_balanced v) (more_shut r) rest (a + length w + 1 + length w') n b.here b.flat.strings.after (flat_depth b.flat ∙ h))

-- the items of a container, from behind its opening bracket on, end where that bracket is closed
pub items_closed : {k : Kind} (is : Items k) (s rest : List ℕ) → s ≡ put_items is rest → Closed false false s 1 (length (put_items is []))
unfolding depth_in
items_closed is s rest e =
    let h = items_shut false false s 1 is rest 0 0 e (carried_start false false s) (started s) in
    let z : length (put_items is []) ≡ suc h.last = omega (arith, h.next) in
    record {
      within = omega (arith, ap length e, length_items is rest);
      is_zero = ap (depth_in false false s 1) (sym (zero-add (length (put_items is [])))) ∙ h.shut;
      no_zero_before = λ j l x.
          (let y : depth_in false false s 1 h.last ≡ 0 = depth_none_at (opens_at false false s) (closes_at false false s) 1 j h.last (omega arith) x in
          omega (arith, h.still_open));
    }
  where
    started : (s : List ℕ) → depth_in false false s 1 0 ≡ suc 0
    started s = refl

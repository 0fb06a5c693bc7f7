-- Document 01, "Words of 64 bits": in a taken record, sorted from its start with both facts false, word two is on from each string's opening quote
-- through the byte before its closing quote, and nowhere else. The same of a container that is sorted from behind its opening bracket on.
-- Assumes nothing.
use Rattle.std.specs.Prelude.{◌≡◌, refl, Bool, true, false, List, [], ◌↔◌, ℕ, suc, ◌+◌, ◌-◌, ◌<◌, ◌≤◌, length, drop}
use Rattle.std.proofs.Common.{sym, ap, subst, ◌∙◌, append-nil, ⊎_elim, zero-add, arith}
use Rattle.std.proofs.lemmas.Bool.{false≢true}
use Rattle.bits.specs.Laws.{lt_or_ge}
use Rattle.blocks.specs.Words.{odd_before, odd_quotes, in_string}
use Rattle.blocks.specs.Laws.{Carried, odd_quotes_past}
use Rattle.encoding.specs.Bytes.{put_blanks}
use Rattle.json_text.specs.Grammar.{put_value, Tree, text}
use Rattle.json_text.specs.Append.{length-text}
use Rattle.select.specs.Nodes.{size}
use Rattle.scan.specs.Places.{past_value}
use Rattle.strings.specs.Strings.{value_strings, strings, InOne}
use Rattle.strings.specs.Parts.{HasStrings, strings_then, strings_to, strings_in}
use Rattle.strings.specs.Texts.{crossed_blanks}
use Rattle.strings.specs.StringsAre.{value_strings_lem}

-- before the first byte both facts are as they were handed in
pub carried_start : (inside odd : Bool) (s : List ℕ) → Carried inside odd s 0 inside odd
unfolding odd_quotes odd_before
carried_start inside odd s = record { quoted_is = refl; escaped_is = refl }

-- ---- a record

tree_strings : (t : Tree) → HasStrings false false (text t) 0 0 (length (text t)) (strings t)
unfolding text strings size
tree_strings t =
    let s : List ℕ = text t in
    let b = crossed_blanks {o = 0} t.before (put_value t.value (put_blanks t.after [])) 0 refl (carried_start false false s) in
    let here : drop (0 + length t.before) s ≡ put_value t.value (put_blanks t.after []) = b.here in
    let v =
    value_strings_lem false false s 0 t.value (put_blanks t.after []) (0 + length t.before) (length t.before) (omega arith) here
    b.flat.strings.after in
    let w =
    crossed_blanks {o = 0} t.after [] (0 + length t.before + size t.value)
    (past_value s (0 + length t.before) t.value (put_blanks t.after []) here) v.after in
    let e : 0 + length t.before + size t.value + length t.after ≡ length (text t) = omega (arith, length-text t) in
    strings_to e (strings_in (append-nil (value_strings t.value (length t.before))) (strings_then b.flat.strings (strings_then v w.flat.strings)))

-- at every place of the record, and past its end
pub word_two : (t : Tree) (i : ℕ) → (in_string false false (text t) i ≡ true) ↔ InOne (strings t) i
unfolding in_string
word_two t i = (on, off)
  where
    m : HasStrings false false (text t) 0 0 (length (text t)) (strings t)
    m = tree_strings t

    past_end : length (text t) ≤ i → in_string false false (text t) i ≡ false
    past_end l =
        let z : suc i ≡ (suc i - length (text t)) + length (text t) = omega arith in
        ap (odd_quotes false false (text t)) z
        ∙ odd_quotes_past (text t) false false (length (text t)) (suc i - length (text t)) (omega arith)
        ∙ m.after.quoted_is

    on : in_string false false (text t) i ≡ true → InOne (strings t) i
    on h = ⊎_elim
        (λ (l : i < length (text t)). subst (InOne (strings t)) (zero-add i) (m.complete i (omega arith) l h))
        (λ (l : length (text t) ≤ i). absurd (false≢true (sym (past_end l) ∙ h)))
        (lt_or_ge i (length (text t)))

    off : InOne (strings t) i → in_string false false (text t) i ≡ true
    off h = let r = m.sound i h in ap (in_string false false (text t)) (r.1 ∙ zero-add r.0) ∙ r.4

-- every string stands in the record
pub strings_within : (t : Tree) (i : ℕ) → InOne (strings t) i → i < length (text t)
strings_within t i h = let r = (tree_strings t).sound i h in omega (arith, r.1, r.3)

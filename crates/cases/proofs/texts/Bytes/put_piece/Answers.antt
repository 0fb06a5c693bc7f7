-- What stands behind a piece is a rest of what stands behind its number, and that is a rest of the text. Assumes nothing.
use Rattle.std.proofs.Common.{◌≡◌, ℕ, ◌+◌, ◌≤◌, List, ◌∷◌, length, drop, ◌∙◌, ap, sym, rules, length-drop, drop-drop}
use Rattle.std.proofs.lemmas.List.{take_rest}
use Rattle.cases.specs.Places.{Rest}
use Rattle.cases.proofs.texts.Bytes.put_piece.Goals as goal

-- from a place on in a rest
rest_drop : (k : ℕ) {at : ℕ} {text rest : List ℕ} → Rest at text rest → k ≤ length rest → Rest at text (drop k rest)
rest_drop k {text = text} h fits =
    record {
      place = h.place + k;
      onward = search (rules, ap length h.is_rest ∙ length-drop h.place text);
      is_rest = ap (drop k) h.is_rest ∙ drop-drop k h.place text;
    }

-- a rest of what stands behind the first byte
rest_tail : {x at : ℕ} {text behind rest : List ℕ} → text ≡ x ∷ behind → Rest at behind rest → Rest (at + 1) text rest
rest_tail {text = text} e h =
    record {
      place = 1 + h.place;
      onward = search rules;
      is_rest = h.is_rest ∙ ap (drop h.place) (sym (ap (drop 1) e)) ∙ drop-drop h.place 1 text;
    }

pub returns-in_ok-ok-in-59-clause-behind : goal.returns-in_ok-ok-in-59-clause-behind
returns-in_ok-ok-in-59-clause-behind g c =
    let end = rest_tail c.in_ok-byte.ensures.cases.0 c.read_digits-number.ensures in
    simp (take_rest) (rest_drop 1 end c.in-59.len_at_least)

pub returns-in_ok-size-in-40-clause-behind : goal.returns-in_ok-size-in-40-clause-behind
returns-in_ok-size-in-40-clause-behind g c =
    let end = rest_tail c.in_ok-byte.ensures.cases.0 c.read_digits-number.ensures in
    simp (take_rest) (rest_drop (c.in_ok-size-in-40.size + 1) (rest_drop 1 end c.in-40.len_at_least) (search rules))
